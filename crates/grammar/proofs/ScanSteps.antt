-- One byte of a run.
use Rattle.std.proofs.Common.{◌≡◌, ℕ, ◌-◌, ◌<◌, true, false, ◌⊎◌, List, [], ◌∷◌, sym, refl, ◌∙◌, inl, inr, arith}
use Rattle.std.proofs.lemmas.Bool.{ne_eqb, lt-ltb, le-ltb, cases_Bool, cases_eq, cases_lt, cond-true, cond-false}
use Rattle.grammar.specs.declared.error.Cause.{Cause}
use Rattle.grammar.specs.declared.error.Cause.TheVariants.{Ended, TooDeep, Unexpected}
use Rattle.grammar.specs.Shape.{Text, is_basic}
use Rattle.grammar.specs.Scan.{Frame, one, others, element, close, types, Step, go, stop, good, bad, begin, step, final, run}

pub run_next : (k : List Frame) (b : ℕ) (l : List Frame) (w : Text) → step k b ≡ go l → run k (b ∷ w) ≡ run l w
unfolding run
run_next k b l w e = rw (e, run) refl

pub run_stop : (k : List Frame) (b : ℕ) (c : Cause) (w : Text) → step k b ≡ stop c → run k (b ∷ w) ≡ bad c (b ∷ w)
unfolding run
run_stop k b c w e = rw (e, run) refl

pub run_same : (k l : List Frame) (b : ℕ) (w : Text) → step k b ≡ step l b → run k (b ∷ w) ≡ run l (b ∷ w)
run_same k l b w e = by (step l b) refl
  where
    by : (x : Step) → step l b ≡ x → run k (b ∷ w) ≡ run l (b ∷ w)
    by (go m) h = run_next k b m w (e ∙ h) ∙ sym (run_next l b m w h)
    by (stop c) h = run_stop k b c w (e ∙ h) ∙ sym (run_stop l b c w h)

pub run_good : (s a : ℕ) (k : List Frame) → run (types s a ∷ k) [] ≡ good
unfolding run final
run_good s a k = refl

pub run_one : (s a : ℕ) (k : List Frame) → run (one s a ∷ k) [] ≡ bad Ended []
unfolding run final
run_one s a k = refl

pub run_others : (s a : ℕ) (k : List Frame) → run (others s a ∷ k) [] ≡ bad Ended []
unfolding run final
run_others s a k = refl

pub run_element : (s a : ℕ) (k : List Frame) → run (element s a ∷ k) [] ≡ bad Ended []
unfolding run final
run_element s a k = refl

pub run_close : (k : List Frame) → run (close ∷ k) [] ≡ bad Ended []
unfolding run final
run_close k = refl

pub begin_basic : (s a b : ℕ) (k : List Frame) → is_basic b ≡ true → begin s a b k ≡ go k
unfolding begin
begin_basic s a b k h = cond-true _ _ _ h

pub begin_maybe : (s a : ℕ) (k : List Frame) → begin s a 109 k ≡ go (one s a ∷ k)
unfolding begin is_basic
begin_maybe s a k = refl

pub begin_array : (s a : ℕ) (k : List Frame) → 0 < a → begin s a 97 k ≡ go (element s (a - 1) ∷ k)
unfolding begin is_basic
begin_array s a k h = cond-true _ _ _ (lt-ltb 0 a h)

pub begin_structure : (s a : ℕ) (k : List Frame) → 0 < s → begin s a 40 k ≡ go (one (s - 1) a ∷ others (s - 1) a ∷ k)
unfolding begin is_basic
begin_structure s a k h = cond-true _ _ _ (lt-ltb 0 s h)

pub begin_array_deep : (s a : ℕ) (k : List Frame) → a ≡ 0 → begin s a 97 k ≡ stop TooDeep
unfolding begin is_basic
begin_array_deep s a k h = cond-false _ _ _ (le-ltb 0 a (omega arith))

pub begin_structure_deep : (s a : ℕ) (k : List Frame) → s ≡ 0 → begin s a 40 k ≡ stop TooDeep
unfolding begin is_basic
begin_structure_deep s a k h = cond-false _ _ _ (le-ltb 0 s (omega arith))

pub begin_unexpected : (s a b : ℕ) (k : List Frame) → is_basic b ≡ false → (b ≡ 109 → ⊥) → (b ≡ 97 → ⊥) → (b ≡ 40 → ⊥) → begin s a b k ≡ stop Unexpected
unfolding begin
begin_unexpected s a b k h m x y =
    cond-false _ _ _ h ∙ cond-false _ _ _ (ne_eqb b 109 m) ∙ cond-false _ _ _ (ne_eqb b 97 x) ∙ cond-false _ _ _ (ne_eqb b 40 y)

pub step_one : (s a b : ℕ) (k : List Frame) → step (one s a ∷ k) b ≡ begin s a b k
unfolding step
step_one s a b k = refl

pub step_types : (s a b : ℕ) (k : List Frame) → step (types s a ∷ k) b ≡ begin s a b (types s a ∷ k)
unfolding step
step_types s a b k = refl

pub step_none : (b : ℕ) → step [] b ≡ stop Unexpected
unfolding step
step_none b = refl

pub step_others_end : (s a : ℕ) (k : List Frame) → step (others s a ∷ k) 41 ≡ go k
unfolding step
step_others_end s a k = refl

pub step_others : (s a b : ℕ) (k : List Frame) → (b ≡ 41 → ⊥) → step (others s a ∷ k) b ≡ begin s a b (others s a ∷ k)
unfolding step
step_others s a b k h = cond-false _ _ _ (ne_eqb b 41 h)

pub step_element_pair : (s a : ℕ) (k : List Frame) → step (element s a ∷ k) 123 ≡ go (one s a ∷ one s a ∷ close ∷ k)
unfolding step
step_element_pair s a k = refl

pub step_element : (s a b : ℕ) (k : List Frame) → (b ≡ 123 → ⊥) → step (element s a ∷ k) b ≡ begin s a b k
unfolding step
step_element s a b k h = cond-false _ _ _ (ne_eqb b 123 h)

pub step_close : (k : List Frame) → step (close ∷ k) 125 ≡ go k
unfolding step
step_close k = refl

pub step_close_not : (b : ℕ) (k : List Frame) → (b ≡ 125 → ⊥) → step (close ∷ k) b ≡ stop Unexpected
unfolding step
step_close_not b k h = cond-false _ _ _ (ne_eqb b 125 h)

-- the ways of the first byte of a type
pub data Begins (s a b : ℕ) (k : List Frame) : Type 0 where
  is_code : is_basic b ≡ true → begin s a b k ≡ go k → Begins s a b k
  is_maybe : b ≡ 109 → begin s a b k ≡ go (one s a ∷ k) → Begins s a b k
  is_array : b ≡ 97 → 0 < a → begin s a b k ≡ go (element s (a - 1) ∷ k) → Begins s a b k
  is_structure : b ≡ 40 → 0 < s → begin s a b k ≡ go (one (s - 1) a ∷ others (s - 1) a ∷ k) → Begins s a b k
  is_deep : (b ≡ 97) ⊎ (b ≡ 40) → begin s a b k ≡ stop TooDeep → Begins s a b k
  is_other : (b ≡ 97 → ⊥) → (b ≡ 40 → ⊥) → begin s a b k ≡ stop Unexpected → Begins s a b k

pub begins : (s a b : ℕ) (k : List Frame) → Begins s a b k
begins s a b k = elim (cases_Bool (is_basic b)) [
  | inl h ↦ is_code h (begin_basic s a b k h)
  | inr h ↦ elim (cases_eq b 109) [
    | inl q ↦ is_maybe q (rw q (begin_maybe s a k))
    | inr m ↦ elim (cases_eq b 97) [
      | inl q ↦ elim (cases_lt 0 a) [ inl p ↦ is_array q p (rw q (begin_array s a k p)) | inr p ↦ is_deep (inl q) (rw q (begin_array_deep s a k (omega arith))) ]
      | inr x ↦ elim (cases_eq b 40) [
        | inl q ↦ elim (cases_lt 0 s) [ inl p ↦ is_structure q p (rw q (begin_structure s a k p)) | inr p ↦ is_deep (inr q) (rw q (begin_structure_deep s a k (omega arith))) ]
        | inr y ↦ is_other x y (begin_unexpected s a b k h m x y)
      ]
    ]
  ]
]
