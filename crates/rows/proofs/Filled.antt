-- Items that a closure gave, one call after another.
use Rattle.std.proofs.Common.{◌≡◌, ℕ, zero, suc, ◌<◌, List, [], ◌∷◌, length, get_or, subst, arith}
use Rattle.std.specs.List.{FoldsTo}

-- where each call gives v and leaves the closure as it was, each item is v
pub filled : {P A : Type 0} (S : P → A → P → Type 0) (p q : P) (v : A) (xs : List A) → ((x : A) (r : P) → S p x r → (x ≡ v) × (r ≡ p)) → FoldsTo S p xs q
    → (k : ℕ) (d : A) → k < length xs → get_or xs k d ≡ v
filled S p q v [] h f k d l = absurd (omega arith)
filled S p q v (x ∷ xs) h f zero d l = (h x f.0 f.1).0
filled {P} S p q v (x ∷ xs) h f (suc k) d l = filled S p q v xs h (subst (λ (r : P). FoldsTo S r xs q) (h x f.0 f.1).1 f.2) k d (omega arith)
