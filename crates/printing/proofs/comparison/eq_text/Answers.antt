use Rattle.std.proofs.Common.{ap, arith}
use Rattle.std.proofs.lemmas.Grind.{common_steps}
use Rattle.sheet.specs.Seen.{book_in}
use Rattle.printing.specs.Forms.{eq_text_of}
use Rattle.printing.proofs.comparison.eq_text.Goals as goal

pub returns-then-is_span-clause-answer : goal.returns-then-is_span-clause-answer
unfolding eq_text_of
returns-then-is_span-clause-answer c =
    let e = ap book_in c.whole.ensures.same in
    let f = ap book_in c.bare.ensures.same in
    grind (arith, common_steps)

pub returns-else-is_span-clause-answer : goal.returns-else-is_span-clause-answer
unfolding eq_text_of
returns-else-is_span-clause-answer c =
    let e = ap book_in c.whole.ensures.same in
    let f = ap book_in c.bare.ensures.same in
    let h = ap book_in c.is_span.ensures.same in
    grind (arith, common_steps)
