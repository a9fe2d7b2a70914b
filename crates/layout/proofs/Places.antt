-- Places in a list, by a test of equality that tells.
use Rattle.std.proofs.Common.{◌≡◌, ℕ, ◌+◌, ◌<◌, ◌≤◌, Bool, true, false, cond, eqb, List, [], ◌∷◌, ◌++◌, length, get_or, take, min, sym, refl, ap, ◌∙◌, true≢false, arith, eq-eqb, ne_eqb}
use native.Mathlib.Decide.{dec_lt}
use Rattle.std.specs.List.{position_or_len}
use Rattle.std.proofs.lemmas.Bool.{cond-true, cond-false}
use Rattle.std.proofs.lemmas.List.Folds.{position_or_len_push}
use Rattle.std.proofs.lemmas.List.Recursion.{is_position_or_len}
use Rattle.std.proofs.lemmas.List.Sums.{position_or_len_is, fails_before_first, passes_at_first}
use Rattle.std.proofs.lemmas.Bool.Decides.{nat_tests}
use Rattle.std.proofs.lemmas.List.{get_or-take, length-take-le}
use Rattle.rows.specs.Found.{Absent}
use Rattle.grammar.specs.Lists.{has, place, add}
use Rattle.book.proofs.Lists.{Decides, numbers, same_lists}
use Rattle.layout.specs.Tails.{same_tail}

module _ {A : Type 0} (same : A → A → Bool) (t : Decides same) where
  -- a place is the first position of an equal item
  first : (ks : List A) (k : A) → place same ks k ≡ position_or_len (λ (x : A). same x k) ks
  first ks k = is_position_or_len (λ (xs : List A). place same xs k) (λ (x : A). same x k) refl (λ x xs. ap (cond (same x k) 0) (omega arith)) ks

  differs : (x k : A) → (x ≡ k → ⊥) → same x k ≡ false
  differs x k h = grind (arith, nat_tests, t.so x k)

  pub place_none : (d : A) (ks : List A) (k : A) → ((j : ℕ) → j < length ks → get_or ks j d ≡ k → ⊥) → place same ks k ≡ length ks
  place_none d ks k h = first ks k ∙ position_or_len_is (λ (x : A). same x k) ks (length ks) d (omega arith) (λ j l. differs (get_or ks j d) k (h j l)) (λ l. absurd (omega arith))

  pub place_at : (d : A) (ks : List A) (k : A) (i : ℕ) → i < length ks → get_or ks i d ≡ k → ((j : ℕ) → j < i → get_or ks j d ≡ k → ⊥) → place same ks k ≡ i
  place_at d ks k i l e h =
      first ks k ∙ position_or_len_is (λ (x : A). same x k) ks i d (omega arith) (λ j m. differs (get_or ks j d) k (h j m)) (λ m. ap (λ (u : A). same u k) e ∙ t.self k)

  pub place_hit : (d : A) (T : List A) (x : A) → place same T x < length T → get_or T (place same T x) d ≡ x
  place_hit d T x h = rw (first T x) (t.so _ x (passes_at_first (λ (y : A). same y x) T d (omega (arith, first T x))))

  pub place_more : (T : List A) (x y : A) → place same T x < length T → place same (T ++ y ∷ []) x ≡ place same T x
  place_more T x y h =
      first (T ++ y ∷ []) x ∙ position_or_len_push (λ (z : A). same z x) T y
      ∙ cond-false (eqb (position_or_len (λ (z : A). same z x) T) (length T)) _ _ (ne_eqb _ _ (omega (arith, first T x))) ∙ sym (first T x)

  pub place_le : (d : A) (T : List A) (x : A) (j : ℕ) → j < length T → get_or T j d ≡ x → place same T x ≤ j
  place_le d T x j h e = go (dec_lt j (place same T x))
    where
      go : Dec (j < place same T x) → place same T x ≤ j
      go (yes l) = absurd (true≢false (sym (ap (λ (u : A). same u x) e ∙ t.self x) ∙ fails_before_first (λ (y : A). same y x) T j d (omega (arith, first T x))))
      go (no n) = omega arith

  pub place_last : (d : A) (T : List A) (x : A) → place same T x ≡ length T → place same (T ++ x ∷ []) x ≡ length T
  place_last d T x e =
      first (T ++ x ∷ []) x ∙ position_or_len_push (λ (z : A). same z x) T x
      ∙ cond-true (eqb (position_or_len (λ (z : A). same z x) T) (length T)) _ _ (eq-eqb _ _ (sym (first T x) ∙ e))
      ∙ ap (λ (n : ℕ). length T + n) (cond-true (same x x) 0 1 (t.self x)) ∙ omega arith

  held : (T : List A) (x : A) → place same T x < length T → has same T x ≡ true
  held [] x h = absurd (omega arith)
  held (y ∷ T) x h = grind (arith, nat_tests, held T x)

  not_held : (T : List A) (x : A) → place same T x ≡ length T → has same T x ≡ false
  not_held [] x h = refl
  not_held (y ∷ T) x h = grind (arith, nat_tests, not_held T x)

  pub add_held : (T : List A) (x : A) → place same T x < length T → add same T x ≡ T
  add_held T x h = cond-true (has same T x) T (T ++ x ∷ []) (held T x h)

  pub add_new : (T : List A) (x : A) → place same T x ≡ length T → add same T x ≡ T ++ x ∷ []
  add_new T x h = cond-false (has same T x) T (T ++ x ∷ []) (not_held T x h)

pub tail_tells : Decides same_tail
tail_tells = same_lists numbers

-- no row in use has a key that is absent
pub absent_in : {R : Type 0} (key : R → List ℕ) (d : R) (rows : List R) (n : ℕ) (k : List ℕ) → n ≤ length rows → Absent key rows (min n (length rows)) k
    → (j : ℕ) → j < length (take n rows) → key (get_or (take n rows) j d) ≡ k → ⊥
absent_in key d rows n k h a j l e =
    let l' : j < n = omega (arith, length-take-le n rows h) in
    a j d (omega arith) (ap key (sym (get_or-take n rows j d l')) ∙ e)
