-- The first number that is unknown, or Unit, is the first that fails a test.
use Rattle.std.proofs.Common.{◌≡◌, ℕ, ◌<◌, ◌≤◌, Bool, not, eqb, ltb, List, length, get_or, Some, None, refl, arith}
use Rattle.std.specs.List.{position, position_or_len}
use Rattle.std.proofs.lemmas.List.Recursion.{is_position_or_len}
use Rattle.std.proofs.lemmas.List.Sums.{fails_before_first}
use Rattle.std.proofs.lemmas.Grind.{common_steps}
use Rattle.std.proofs.lemmas.Bool.Decides.{nat_tests}
use Rattle.book.specs.Makers.{unknown_at, unit_at}

abbrev pub is_unknown : ℕ → ℕ → Bool
is_unknown known f = not (ltb f known)

abbrev pub is_unit : ℕ → Bool
is_unit f = eqb f 0

pub unknown_first : (known : ℕ) (fs : List ℕ) → unknown_at known fs ≡ position_or_len (is_unknown known) fs
unknown_first known fs = is_position_or_len (unknown_at known) (is_unknown known) refl (λ x xs. grind (arith, nat_tests, common_steps)) fs

pub unit_first : (fs : List ℕ) → unit_at fs ≡ position_or_len is_unit fs
unit_first fs = is_position_or_len unit_at is_unit refl (λ x xs. grind (arith, nat_tests, common_steps)) fs

-- what `position` answers, where n is the place of the first
pub first_found : {n : ℕ} (p : ℕ → Bool) (fs : List ℕ) (i : ℕ) → n ≡ position_or_len p fs → Some i ≡ position p fs → (i ≡ n) × (n < length fs)
first_found p fs i e h = grind (arith, nat_tests, common_steps)

pub none_found : {n : ℕ} (p : ℕ → Bool) (fs : List ℕ) → n ≡ position_or_len p fs → None ≡ position p fs → length fs ≤ n
none_found p fs e h = grind (arith, nat_tests, common_steps)

-- Where no number is unknown, each is known; where none is 0, each is more.
pub all_known : (known : ℕ) (fs : List ℕ) → length fs ≤ unknown_at known fs → (i : ℕ) → i < length fs → get_or fs i 0 < known
all_known known fs h i l =
    let e = fails_before_first (is_unknown known) fs i 0 (omega (arith, unknown_first known fs)) in
    grind (arith, nat_tests)

pub all_more : (fs : List ℕ) → length fs ≤ unit_at fs → (i : ℕ) → i < length fs → 0 < get_or fs i 0
all_more fs h i l =
    let e = fails_before_first is_unit fs i 0 (omega (arith, unit_first fs)) in
    grind (arith, nat_tests)
