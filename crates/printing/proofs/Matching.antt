-- A text to match, and the bytes that are offered.
use Rattle.std.proofs.Common.{◌≡◌, ℕ, Bool, true, false, eqb, List, length, inl, inr, arith}
use Rattle.std.proofs.lemmas.Bool.{cases_Bool}
use Rattle.std.proofs.lemmas.Bool.Decides.{nat_tests}
use Rattle.book.specs.Plain.{same_text}
use Rattle.book.proofs.NodeShapes.{same_texts}
use Rattle.writers.specs.State.{State, Wrote, text_state}
use Rattle.writers.proofs.Ruled.{matched, matches}

module _ (text bs : List ℕ) (k : ℕ) (all : Bool) (new : State) (w : Wrote (text_state text 0) new bs k all) where
  pub same_if : all ≡ true → eqb k (length text) ≡ same_text text bs
  same_if a = elim (cases_Bool (same_text text bs)) [
    | inl e ↦ grind (arith, nat_tests, matches text bs k all new w (same_texts.so text bs e))
    | inr e ↦ grind (arith, nat_tests, matched text bs k all new w, same_texts.self text)
  ]

  pub other_if : all ≡ false → all ≡ same_text text bs
  other_if a = grind (arith, cases_Bool (same_text text bs), matches text bs k all new w, same_texts.so text bs)
