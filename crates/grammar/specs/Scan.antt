-- A text read byte by byte, with what is still to come on a stack. It computes, and is proved to find the valid texts
-- and the faults of the others (see Laws).
use Rattle.std.specs.Prelude.{ℕ, ◌-◌, cond, List, [], ◌∷◌, length, ◌==◌, nat_lt}
use Rattle.std.proofs.Math.Option.{Option, none, some}
use Rattle.grammar.specs.declared.error.Cause.{Cause}
use Rattle.grammar.specs.declared.error.Cause.TheVariants.{Ended, TooDeep, Unexpected}
use Rattle.grammar.specs.declared.error.Fault.{Fault}
use Rattle.grammar.specs.Shape.{Text, is_basic}
use Rattle.grammar.specs.Valid.{deepest_structures, deepest_arrays}

-- what is to come, with how many more structures and arrays may be nested in it
pub data Frame : Type 0 where
  one : ℕ → ℕ → Frame  -- a complete type
  others : ℕ → ℕ → Frame  -- complete types and ')'
  element : ℕ → ℕ → Frame  -- what stands after 'a'
  close : Frame  -- '}'
  types : ℕ → ℕ → Frame  -- complete types until the end, whatever stands below

pub data Step : Type 0 where
  go : List Frame → Step
  stop : Cause → Step

-- all is read, or what is left from the byte on that is at fault
pub data Verdict : Type 0 where
  good : Verdict
  bad : Cause → Text → Verdict

-- the first byte of a type, with k to come after the type
unfoldable pub begin : ℕ → ℕ → ℕ → List Frame → Step
begin s a b k =
    cond (is_basic b) (go k)
    (cond (b == 109) (go (one s a ∷ k))
    (cond (b == 97) (cond (nat_lt 0 a) (go (element s (a - 1) ∷ k)) (stop TooDeep))
    (cond (b == 40) (cond (nat_lt 0 s) (go (one (s - 1) a ∷ others (s - 1) a ∷ k)) (stop TooDeep))
    (stop Unexpected))))

unfoldable pub step : List Frame → ℕ → Step
step [] b = stop Unexpected
step (one s a ∷ k) b = begin s a b k
step (others s a ∷ k) b = cond (b == 41) (go k) (begin s a b (others s a ∷ k))
step (element s a ∷ k) b = cond (b == 123) (go (one s a ∷ one s a ∷ close ∷ k)) (begin s a b k)
step (close ∷ k) b = cond (b == 125) (go k) (stop Unexpected)
step (types s a ∷ k) b = begin s a b (types s a ∷ k)

-- what the end of the text means
unfoldable pub final : List Frame → Verdict
final [] = good
final (one s a ∷ k) = bad Ended []
final (others s a ∷ k) = bad Ended []
final (element s a ∷ k) = bad Ended []
final (close ∷ k) = bad Ended []
final (types s a ∷ k) = good

unfoldable pub run : List Frame → Text → Verdict
run k [] = final k
run k (b ∷ w) = elim (step k b) [ go l ↦ run l w | stop c ↦ bad c (b ∷ w) ]

-- a whole text
abbrev pub top : List Frame
top = types deepest_structures deepest_arrays ∷ []

abbrev pub fault_by : Text → Verdict → Option Fault
fault_by w good = none
fault_by w (bad c rest) = some (record { cause = c; place = length w - length rest })

-- the fault of a text, or none where it is valid
unfoldable pub fault : Text → Option Fault
fault w = fault_by w (run top w)
