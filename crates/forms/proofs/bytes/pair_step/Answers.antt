use Rattle.std.proofs.Common.{◌∷◌, [], ◌∙◌, arith}
use Rattle.sheet.specs.Seen.{book_in}
use Rattle.forms.proofs.Texts.{long_as}
use Rattle.forms.proofs.Leading.{at_start, past_part, in_part, at_end}
use Rattle.forms.proofs.bytes.pair_step.Goals as goal

pub returns-in_default-past-clause-leads : goal.returns-in_default-past-clause-leads
returns-in_default-past-clause-leads c =
    in_part (past_part (at_start (book_in c.args.sheet.now) 125 (c.args.key ∷ c.args.value ∷ []) c.args.p) c.in-Some.ensures.past)
    (omega (arith, c.in_default-past.ensures.past, long_as c.past.ensures.same c.args.value))

pub returns-clause-leads : goal.returns-clause-leads
returns-clause-leads c =
    c.then_some.ensures
    ∙ at_end (past_part (past_part (at_start (book_in c.args.sheet.now) 125 (c.args.key ∷ c.args.value ∷ []) c.args.p) c.in-Some.ensures.past)
    (omega (arith, c.in-Some-past.ensures.past, long_as c.past.ensures.same c.args.value)))
