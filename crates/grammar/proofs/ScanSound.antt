-- A text that is read to its end is that of shapes.
use Rattle.std.proofs.Common.{◌≡◌, ℕ, ◌+◌, ◌-◌, ◌<◌, ◌≤◌, List, [], ◌∷◌, ◌++◌, sym, refl, ap, ◌∙◌, subst, inl, inr, append_assoc, arith}
use Rattle.std.proofs.lemmas.Bool.{cases_eq}
use Rattle.grammar.specs.Shape.{Text, Shape, basic, array, dict, structure, maybe, Shapes, nil, more, printed, printed_all}
use Rattle.grammar.specs.Depth.{structure_depth, structure_depths, array_depth, array_depths}
use Rattle.grammar.specs.Scan.{Frame, one, others, element, close, types, Step, go, stop, good, begin, step, final, run}
use Rattle.grammar.proofs.ScanSteps.{run_next, run_stop, step_others, step_element, step_close_not, Begins, begins, is_code, is_maybe, is_array, is_structure, is_deep, is_other}

-- a text begins with a type, and then comes what R says
pub record Typed (s a : ℕ) (w : Text) (R : Text → Type 0) : Type 0 where
  pub shape : Shape
  pub few_structures : structure_depth shape ≤ s
  pub few_arrays : array_depth shape ≤ a
  pub tail : Text
  pub text : w ≡ printed shape ++ tail
  pub then : R tail

pub record Listed (s a : ℕ) (w : Text) (R : Text → Type 0) : Type 0 where
  pub shapes : Shapes
  pub few_structures : structure_depths shapes ≤ s
  pub few_arrays : array_depths shapes ≤ a
  pub tail : Text
  pub text : w ≡ printed_all shapes ++ tail
  pub then : R tail

pub record Next (b : ℕ) (w : Text) (R : Text → Type 0) : Type 0 where
  pub tail : Text
  pub text : w ≡ b ∷ tail
  pub then : R tail

-- the texts that a stack stands for
abbrev pub Reads : List Frame → Text → Type 0
Reads [] w = w ≡ []
Reads (one s a ∷ k) w = Typed s a w (Reads k)
Reads (others s a ∷ k) w = Listed s a w (λ v. Next 41 v (Reads k))
Reads (element s a ∷ k) w = Typed s (a + 1) (97 ∷ w) (Reads k)
Reads (close ∷ k) w = Next 125 w (Reads k)
Reads (types s a ∷ k) w = Listed s a w (λ v. v ≡ [])

of_maybe : (s a b : ℕ) (w : Text) (R : Text → Type 0) → b ≡ 109 → Typed s a w R → Typed s a (b ∷ w) R
of_maybe s a b w R q t = record { shape = maybe t.shape; few_structures = t.few_structures; few_arrays = t.few_arrays; tail = t.tail; text = rw q (ap (λ (x : Text). 109 ∷ x) t.text); then = t.then }

of_array : (s a b : ℕ) (w : Text) (R : Text → Type 0) → b ≡ 97 → 0 < a → Typed s (a - 1 + 1) (97 ∷ w) R → Typed s a (b ∷ w) R
of_array s a b w R q h t = record { shape = t.shape; few_structures = t.few_structures; few_arrays = omega (arith, t.few_arrays); tail = t.tail; text = rw q t.text; then = t.then }

of_structure : (s a b : ℕ) (w : Text) (R : Text → Type 0) → b ≡ 40 → 0 < s → Typed (s - 1) a w (λ v. Listed (s - 1) a v (λ u. Next 41 u R)) → Typed s a (b ∷ w) R
of_structure s a b w R q h t = let ts = t.then in let n = ts.then in
    record {
      shape = structure t.shape ts.shapes;
      few_structures = omega (arith, t.few_structures, ts.few_structures);
      few_arrays = omega (arith, t.few_arrays, ts.few_arrays);
      tail = n.tail;
      text = rw (q, t.text, ts.text, n.text) (ap (λ (x : Text). 40 ∷ x) (simp append_assoc));
      then = n.then;
    }

of_dictionary : (s a b : ℕ) (w : Text) (R : Text → Type 0) → b ≡ 123 → Typed s a w (λ v. Typed s a v (λ u. Next 125 u R)) → Typed s (a + 1) (97 ∷ b ∷ w) R
of_dictionary s a b w R q t = let u = t.then in let n = u.then in
    record {
      shape = dict t.shape u.shape;
      few_structures = omega (arith, t.few_structures, u.few_structures);
      few_arrays = omega (arith, t.few_arrays, u.few_arrays);
      tail = n.tail;
      text = rw (q, t.text, u.text, n.text) (ap (λ (x : Text). 97 ∷ 123 ∷ x) (simp append_assoc));
      then = n.then;
    }

back_begin : (s a b : ℕ) (k l : List Frame) (w : Text) → begin s a b k ≡ go l → Reads l w → Typed s a (b ∷ w) (Reads k)
back_begin s a b k l w e r = by (begins s a b k)
  where
    at : (m : List Frame) → begin s a b k ≡ go m → Reads m w
    at m h = let z : l ≡ m = cc in subst (λ (x : List Frame). Reads x w) z r

    by : Begins s a b k → Typed s a (b ∷ w) (Reads k)
    by (is_code h g) = record { shape = basic b h; few_structures = omega arith; few_arrays = omega arith; tail = w; text = refl; then = at k g }
    by (is_maybe q g) = of_maybe s a b w (Reads k) q (at (one s a ∷ k) g)
    by (is_array q h g) = of_array s a b w (Reads k) q h (at (element s (a - 1) ∷ k) g)
    by (is_structure q h g) = of_structure s a b w (Reads k) q h (at (one (s - 1) a ∷ others (s - 1) a ∷ k) g)
    by (is_deep q g) = cc
    by (is_other p q g) = cc

-- one more type before the others
cons : (s a : ℕ) (w : Text) (R : Text → Type 0) → Typed s a w (λ v. Listed s a v R) → Listed s a w R
cons s a w R t = let ts = t.then in
    record {
      shapes = more t.shape ts.shapes;
      few_structures = omega (arith, t.few_structures, ts.few_structures);
      few_arrays = omega (arith, t.few_arrays, ts.few_arrays);
      tail = ts.tail;
      text = rw (t.text, ts.text) (sym (append_assoc (printed t.shape) (printed_all ts.shapes) ts.tail));
      then = ts.then;
    }

back : (k : List Frame) (b : ℕ) (l : List Frame) (w : Text) → step k b ≡ go l → Reads l w → Reads k (b ∷ w)
unfolding step
back [] b l w e r = cc
back (types s a ∷ k) b l w e r = cons s a (b ∷ w) (λ v. v ≡ []) (back_begin s a b (types s a ∷ k) l w e r)
back (one s a ∷ k) b l w e r = back_begin s a b k l w e r
back (others s a ∷ k) b l w e r = elim (cases_eq b 41) [
  | inl q ↦ record {
    shapes = nil;
    few_structures = omega arith;
    few_arrays = omega arith;
    tail = b ∷ w;
    text = refl;
    then = record { tail = w; text = rw q refl; then = let z : l ≡ k = cc in subst (λ (x : List Frame). Reads x w) z r };
  }
  | inr q ↦ cons s a (b ∷ w) (λ v. Next 41 v (Reads k)) (back_begin s a b (others s a ∷ k) l w (sym (step_others s a b k q) ∙ e) r)
]
back (element s a ∷ k) b l w e r = elim (cases_eq b 123) [
  | inl q ↦ let z : l ≡ one s a ∷ one s a ∷ close ∷ k = cc in of_dictionary s a b w (Reads k) q (subst (λ (x : List Frame). Reads x w) z r)
  | inr q ↦ let t = back_begin s a b k l w (sym (step_element s a b k q) ∙ e) r in
      record { shape = array t.shape; few_structures = t.few_structures; few_arrays = omega (arith, t.few_arrays); tail = t.tail; text = ap (λ (x : Text). 97 ∷ x) t.text; then = t.then }
]
back (close ∷ k) b l w e r = elim (cases_eq b 125) [
  | inl q ↦ record { tail = w; text = rw q refl; then = let z : l ≡ k = cc in subst (λ (x : List Frame). Reads x w) z r }
  | inr q ↦ cc (step_close_not b k q)
]

pub sound : (w : Text) (k : List Frame) → run k w ≡ good → Reads k w
unfolding run final
sound [] [] e = refl
sound [] (one s a ∷ k) e = cc
sound [] (others s a ∷ k) e = cc
sound [] (element s a ∷ k) e = cc
sound [] (close ∷ k) e = cc
sound [] (types s a ∷ k) e = record { shapes = nil; few_structures = omega arith; few_arrays = omega arith; tail = []; text = refl; then = refl }
sound (b ∷ w) k e = by (sound w) (step k b) refl
  where
    by : ((l : List Frame) → run l w ≡ good → Reads l w) → (x : Step) → step k b ≡ x → Reads k (b ∷ w)
    by ih (go l) h = back k b l w h (ih l (sym (run_next k b l w h) ∙ e))
    by ih (stop c) h = cc (run_stop k b c w h)
