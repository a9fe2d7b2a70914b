use Rattle.std.proofs.Common.{rules, ◌≡◌, length, position, unwrap_or, Option, ℕ, ap, ◌∙◌, ◌==◌}
use Rattle.std.proofs.lemmas.Iterator.{YieldsList-from_slice}
use Rattle.std.proofs.lemmas.Iterator.Search.{position_from_yields_List}
use borrow.Author.Tests.{tests}
use Rattle.textlines.proofs.lines.line_length.Goals as goal

pub returns-clause-first : goal.returns-clause-first
returns-clause-first c =
    let p : c.position.result ≡ position (λ b. b == 10) c.args.text.now
    = position_from_yields_List (λ b. b == 10) _ _ c.position.result c.position.ensures.ran (YieldsList-from_slice c.args.text.now cc) (λ x b q k. search (rules, tests)) in
    c.unwrap_or.ensures ∙ ap (λ (o : Option ℕ). unwrap_or o (length c.args.text.now)) p
