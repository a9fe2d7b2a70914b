-- A shape's text is read to its end.
use Rattle.std.proofs.Common.{◌≡◌, ℕ, ◌-◌, ◌≤◌, List, [], ◌∷◌, ◌++◌, refl, ◌∙◌, append_assoc, arith}
use Rattle.std.proofs.lemmas.Bool.{lt-ltb, ne_eqb}
use Rattle.grammar.specs.Shape.{Text, is_basic, Shape, basic, array, dict, structure, maybe, Shapes, nil, more, printed, printed_all}
use Rattle.grammar.specs.Depth.{structure_depth, structure_depths, array_depth, array_depths}
use Rattle.grammar.specs.Scan.{Frame, one, others, element, close, types, good, begin, step, run}
use Rattle.grammar.proofs.ReadBack.{head}
use Rattle.grammar.proofs.ScanSteps.{run_good}

-- where a type may begin, a shape's text is read as a type
pub at_others : (t : Shape) (s a : ℕ) (k : List Frame) (w : Text) → run (others s a ∷ k) (printed t ++ w) ≡ run (one s a ∷ others s a ∷ k) (printed t ++ w)
unfolding run step
at_others t s a k w = let f = head t in rw (f.text, ne_eqb f.byte 41 f.no_bracket, run)

pub at_element : (t : Shape) (s a : ℕ) (k : List Frame) (w : Text) → run (element s a ∷ k) (printed t ++ w) ≡ run (one s a ∷ k) (printed t ++ w)
unfolding run step
at_element t s a k w = let f = head t in rw (f.text, ne_eqb f.byte 123 f.no_brace, run)

pub at_types : (t : Shape) (s a : ℕ) (k : List Frame) (w : Text) → run (types s a ∷ k) (printed t ++ w) ≡ run (one s a ∷ types s a ∷ k) (printed t ++ w)
unfolding run step
at_types t s a k w = rw (head t).text

mutual
  unfolding run step begin is_basic

  pub complete : (t : Shape) (s a : ℕ) (k : List Frame) (w : Text) → structure_depth t ≤ s → array_depth t ≤ a → run (one s a ∷ k) (printed t ++ w) ≡ run k w
  complete (basic c h) s a k w p q = rw (h, run)
  complete (array t) s a k w p q = rw (lt-ltb 0 a (omega arith), run) (at_element t s (a - 1) k w ∙ complete t s (a - 1) k w p (omega arith))
  complete (dict u v) s a k w p q =
      rw (append_assoc, append_assoc) (rw (lt-ltb 0 a (omega arith), run) (complete u s (a - 1) (one s (a - 1) ∷ close ∷ k) (printed v ++ 125 ∷ w) (omega arith) (omega arith))
      ∙ complete v s (a - 1) (close ∷ k) (125 ∷ w) (omega arith) (omega arith))
  complete (structure t ts) s a k w p q =
      rw (append_assoc, append_assoc) (rw (lt-ltb 0 s (omega arith), run) (complete t (s - 1) a (others (s - 1) a ∷ k) (printed_all ts ++ 41 ∷ w) (omega arith) (omega arith))
      ∙ complete_all ts (s - 1) a k w (omega arith) (omega arith))
  complete (maybe t) s a k w p q = complete t s a k w p q

  pub complete_all : (ts : Shapes) (s a : ℕ) (k : List Frame) (w : Text) → structure_depths ts ≤ s → array_depths ts ≤ a → run (others s a ∷ k) (printed_all ts ++ 41 ∷ w) ≡ run k w
  complete_all nil s a k w p q = refl
  complete_all (more t ts) s a k w p q =
      rw append_assoc (at_others t s a k (printed_all ts ++ 41 ∷ w) ∙ complete t s a (others s a ∷ k) (printed_all ts ++ 41 ∷ w) (omega arith) (omega arith))
      ∙ complete_all ts s a k w (omega arith) (omega arith)

pub complete_top : (ts : Shapes) (s a : ℕ) → structure_depths ts ≤ s → array_depths ts ≤ a → run (types s a ∷ []) (printed_all ts) ≡ good
complete_top nil s a p q = run_good s a []
complete_top (more t ts) s a p q = at_types t s a [] (printed_all ts) ∙ complete t s a (types s a ∷ []) (printed_all ts) (omega arith) (omega arith) ∙ complete_top ts s a (omega arith) (omega arith)
