-- The element at a place of a list that is put together.
use Rattle.std.proofs.Common.{◌≡◌, ℕ, zero, suc, ◌+◌, ◌-◌, ◌<◌, List, [], ◌∷◌, ◌++◌, length, slice_get, nat_eq, Bool, Bor, Option, Some, None, sym, refl, ap, arith, ne_eqb}
use Rattle.std.specs.Bool.{then_some}
use Rattle.std.specs.Option.{option_copied}
use Rattle.std.specs.Slice.{IsItemAt}
use Rattle.std.proofs.lemmas.Option.{slice_get_past, slice_get_read}

pub at_behind : (x p : ℕ) (xs : List ℕ) → 0 < p → slice_get (x ∷ xs) p ≡ slice_get xs (p - 1)
at_behind x zero xs h = absurd (omega arith)
at_behind x (suc p) xs h = let e : p ≡ suc p - 1 = omega arith in ap (slice_get xs) e

pub at_left : (xs ys : List ℕ) (p : ℕ) → p < length xs → slice_get (xs ++ ys) p ≡ slice_get xs p
at_left [] ys p h = absurd (omega arith)
at_left (x ∷ xs) ys zero h = refl
at_left (x ∷ xs) ys (suc p) h = at_left xs ys p (omega arith)

pub at_right : (xs ys : List ℕ) (p q : ℕ) → length xs + q ≡ p → slice_get (xs ++ ys) p ≡ slice_get ys q
at_right [] ys p q e = let z : p ≡ q = omega arith in ap (slice_get ys) z
at_right (x ∷ xs) ys zero q e = absurd (omega arith)
at_right (x ∷ xs) ys (suc p) q e = at_right xs ys p q (omega arith)

-- the only element, and what is past it
pub at_last : (x p : ℕ) → then_some (nat_eq p 0) x ≡ slice_get (x ∷ []) p
at_last x zero = refl
at_last x (suc p) = ap (λ (k : Bool). then_some k x) (ne_eqb (suc p) 0 (λ e. omega arith))

-- what `get` and `copied` answer
pub at_copied : (xs : List ℕ) (i : ℕ) (r : Option (Bor ℕ)) → IsItemAt xs i r → option_copied r ≡ slice_get xs i
at_copied xs i None h = sym (slice_get_past xs i h.3)
at_copied xs i (Some x) h = sym (slice_get_read xs (length xs) i x.now refl h.3.0 h.1)
