-- What an empty writer holds that declined nothing.
use Rattle.std.proofs.Common.{◌≡◌, ℕ, true, List, [], take, arith}
use Rattle.std.proofs.lemmas.Grind.{common_steps}
use Rattle.grammar.specs.Shape.{Text}
use Rattle.grammar.specs.Refusals.{accepted}
use Rattle.writers.specs.State.{State, Took, Wrote}
use Rattle.writers.proofs.Ruled.{held}
use Rattle.printing.specs.declared.printing.Printed.{Printed}
use Rattle.printing.specs.Forms.{written_of}

module _ (b : List Text) (n : ℕ) (w : Text) (old new : State) (r : Printed) (a : accepted r ≡ written_of b n w old) (t : Took old new (take r.taken w)) where
  -- what a printer answered and did to its writer is what the writer made of the bytes
  pub wrote_from : Wrote old new w r.taken r.all
  unfolding written_of
  wrote_from = record { count = grind (arith, common_steps); whole = grind (arith, common_steps); took = t }

  pub holds_form : old.taken ≡ [] → r.all ≡ true → new.taken ≡ w
  holds_form e all = held old new w r.taken r.all wrote_from e all
