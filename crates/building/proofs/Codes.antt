-- The numbers of the basic codes.
use Rattle.std.proofs.Common.{◌≡◌, ℕ, ◌+◌, ◌-◌, false, eqb, None, Some, position, get_or, ap, ◌∙◌, arith}
use Rattle.std.proofs.lemmas.List.Quantifiers.{position-Some}
use Rattle.std.proofs.lemmas.Grind.{common_steps}
use Rattle.grammar.specs.Shape.{basic_codes, is_basic}
use Rattle.book.proofs.Lists.{numbers}
use Rattle.building.specs.Building.{CodeNumber}

-- What a search in the codes finds.
pub found_code : (b i : ℕ) → position (λ c. eqb c b) basic_codes ≡ Some i → CodeNumber b (i + 1)
found_code b i e =
    let p = position-Some (λ c. eqb c b) basic_codes i 0 e in
    let z : i + 1 - 1 ≡ i = omega arith in
    record { low = omega arith; high = omega (arith, p.0); code = ap (λ (k : ℕ). get_or basic_codes k 0) z ∙ numbers.so _ _ p.1 }

pub no_code_found : (b : ℕ) → position (λ c. eqb c b) basic_codes ≡ None → is_basic b ≡ false
unfolding is_basic
no_code_found b e = grind (arith, common_steps)
