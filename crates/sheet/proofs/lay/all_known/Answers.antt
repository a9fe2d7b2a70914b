use Rattle.std.proofs.Common.{ap, sym, ◌∙◌, rules}
use borrow.Author.Tests.{tests}
use Rattle.std.proofs.lemmas.Iterator.{YieldsList-from_slice}
use Rattle.std.proofs.lemmas.Iterator.Search.{position_from_yields_List}
use Rattle.grammar.specs.declared.error.Refusal.TheVariants.{Unknown}
use Rattle.layout.proofs.Firsts.{is_unknown, unknown_first, first_found, none_found}
use Rattle.sheet.proofs.lay.all_known.Goals as goal

pub returns-in-Some : goal.returns-in-Some
returns-in-Some c =
    let k = c.args.known in
    let fs = c.args.fs.now in
    let e = position_from_yields_List (is_unknown k) _ _ _ c.position.ensures.ran (YieldsList-from_slice fs c.iter.ensures.rest) (λ x b q h. search (rules, tests)) in
    let p = first_found (is_unknown k) fs c.in-Some.i (unknown_first k fs) (sym c.in-Some.is ∙ e) in
    (ap Unknown p.0, p.1)

pub returns-in-None : goal.returns-in-None
returns-in-None c =
    let k = c.args.known in
    let fs = c.args.fs.now in
    let e = position_from_yields_List (is_unknown k) _ _ _ c.position.ensures.ran (YieldsList-from_slice fs c.iter.ensures.rest) (λ x b q h. search (rules, tests)) in
    none_found (is_unknown k) fs (unknown_first k fs) (sym c.in-None.is ∙ e)
