-- What was done at places of printed forms.
use Rattle.std.specs.Prelude.{ℕ, List, [], ◌∷◌}
use Rattle.std.specs.Borrow.{MutBor}
use Rattle.sheet.specs.declared.sheet.Sheet.{Sheet}

-- It was done at the place p of the form of a number.
pub record Asked (ask : MutBor Sheet → ℕ → ℕ → MutBor Sheet → Type 0) (p : ℕ) : Type 0 where
  pub sheet : MutBor Sheet
  pub number : ℕ
  pub left : MutBor Sheet
  pub asked : ask sheet number p left

abbrev pub AllAsked : (MutBor Sheet → ℕ → ℕ → MutBor Sheet → Type 0) → List ℕ → Type 0
AllAsked ask [] = Unit {0}
AllAsked ask (p ∷ ps) = Asked ask p × AllAsked ask ps
