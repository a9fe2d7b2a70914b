-- A run with one more structure and array allowed everywhere goes at least as far.
use Rattle.std.proofs.Common.{◌≡◌, ℕ, ◌+◌, ◌-◌, ◌⊎◌, List, [], ◌∷◌, sym, ap, ◌∙◌, inl, inr, arith}
use Rattle.std.proofs.lemmas.Bool.{cases_eq}
use Rattle.grammar.specs.declared.error.Cause.TheVariants.{TooDeep}
use Rattle.grammar.specs.Scan.{Frame, one, others, element, close, types, go, stop, begin, step}
use Rattle.grammar.proofs.ScanSteps.{begin_basic, begin_maybe, begin_array, begin_structure, step_others, step_element, step_close_not, begins, is_code, is_maybe, is_array, is_structure, is_deep, is_other}

abbrev pub raise : List Frame → List Frame
raise [] = []
raise (one s a ∷ k) = one (s + 1) (a + 1) ∷ raise k
raise (others s a ∷ k) = others (s + 1) (a + 1) ∷ raise k
raise (element s a ∷ k) = element (s + 1) (a + 1) ∷ raise k
raise (close ∷ k) = close ∷ raise k
raise (types s a ∷ k) = types (s + 1) (a + 1) ∷ raise k

raise_begin : (s a b : ℕ) (k l : List Frame) → begin s a b k ≡ go l → begin (s + 1) (a + 1) b (raise k) ≡ go (raise l)
raise_begin s a b k l e = elim (begins s a b k) [
  | is_code h g ↦ cc (begin_basic (s + 1) (a + 1) b (raise k) h)
  | is_maybe q g ↦ cc (begin_maybe (s + 1) (a + 1) (raise k))
  | is_array q h g ↦ let same : a + 1 - 1 ≡ a - 1 + 1 = omega arith in cc (begin_array (s + 1) (a + 1) (raise k) (omega arith))
  | is_structure q h g ↦ let same : s + 1 - 1 ≡ s - 1 + 1 = omega arith in cc (begin_structure (s + 1) (a + 1) (raise k) (omega arith))
  | is_deep q g ↦ cc
  | is_other p q g ↦ cc
]

pub raise_step : (k : List Frame) (b : ℕ) (l : List Frame) → step k b ≡ go l → step (raise k) b ≡ go (raise l)
unfolding step
raise_step [] b l e = cc
raise_step (one s a ∷ k) b l e = raise_begin s a b k l e
raise_step (types s a ∷ k) b l e = raise_begin s a b (types s a ∷ k) l e
raise_step (others s a ∷ k) b l e = elim (cases_eq b 41) [
  | inl q ↦ cc
  | inr q ↦ step_others (s + 1) (a + 1) b (raise k) q ∙ raise_begin s a b (others s a ∷ k) l (sym (step_others s a b k q) ∙ e)
]
raise_step (element s a ∷ k) b l e = elim (cases_eq b 123) [
  | inl q ↦ cc
  | inr q ↦ step_element (s + 1) (a + 1) b (raise k) q ∙ raise_begin s a b k l (sym (step_element s a b k q) ∙ e)
]
raise_step (close ∷ k) b l e = elim (cases_eq b 125) [ inl q ↦ cc | inr q ↦ cc (step_close_not b k q) ]

opens : (s a b : ℕ) (k : List Frame) → (b ≡ 97) ⊎ (b ≡ 40) → (l : List Frame) × (begin (s + 1) (a + 1) b k ≡ go l)
opens s a b k o = elim o [
  | inl q ↦ (element (s + 1) (a + 1 - 1) ∷ k, ap (λ x. begin (s + 1) (a + 1) x k) q ∙ begin_array (s + 1) (a + 1) k (omega arith))
  | inr q ↦ (one (s + 1 - 1) (a + 1) ∷ others (s + 1 - 1) (a + 1) ∷ k, ap (λ x. begin (s + 1) (a + 1) x k) q ∙ begin_structure (s + 1) (a + 1) k (omega arith))
]

-- what only the depth forbids is allowed then
pub raise_deep : (k : List Frame) (b : ℕ) → (b ≡ 97) ⊎ (b ≡ 40) → step k b ≡ stop TooDeep → (l : List Frame) × (step (raise k) b ≡ go l)
unfolding step
raise_deep [] b o e = cc
raise_deep (one s a ∷ k) b o e = opens s a b (raise k) o
raise_deep (types s a ∷ k) b o e = opens s a b (raise (types s a ∷ k)) o
raise_deep (others s a ∷ k) b o e = let x = opens s a b (raise (others s a ∷ k)) o in (x.0, step_others (s + 1) (a + 1) b (raise k) (omega arith) ∙ x.1)
raise_deep (element s a ∷ k) b o e = let x = opens s a b (raise k) o in (x.0, step_element (s + 1) (a + 1) b (raise k) (omega arith) ∙ x.1)
raise_deep (close ∷ k) b o e = cc (step_close_not b k (omega arith))
