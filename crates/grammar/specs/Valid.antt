-- The valid signatures, and what is wrong with a text that is none.
use Rattle.std.specs.Prelude.{◌≡◌, ℕ, ◌+◌, ◌<◌, ◌≤◌, ◌⊎◌, ◌++◌, length, take, slice_index}
use Rattle.grammar.specs.declared.error.Cause.{Cause}
use Rattle.grammar.specs.declared.error.Cause.TheVariants.{Ended, TooDeep, Unexpected}
use Rattle.grammar.specs.declared.error.Fault.{Fault}
use Rattle.grammar.specs.Shape.{Text, Shape, Shapes, printed, printed_all}
use Rattle.grammar.specs.Depth.{structure_depths, array_depths}

-- How many bytes a text to be read may have.
abbrev pub longest_text : ℕ
longest_text = 65535

-- How deep structures may be nested in a text to be read, and how deep arrays and dictionaries.
abbrev pub deepest_structures : ℕ
deepest_structures = 32

abbrev pub deepest_arrays : ℕ
deepest_arrays = 32

-- Complete types in a row, none or more, each within the depths. Their length is another matter.
pub record Valid (w : Text) : Type 0 where
  pub shapes : Shapes
  pub few_structures : structure_depths shapes ≤ deepest_structures
  pub few_arrays : array_depths shapes ≤ deepest_arrays
  pub text : w ≡ printed_all shapes

-- Some text goes on from w to a valid one.
pub record Start (w : Text) : Type 0 where
  pub rest : Text
  pub valid : Valid (w ++ rest)

-- The length of the longest start of w that is also a start of a valid text.
pub record Place (w : Text) (k : ℕ) : Type 0 where
  pub within : k ≤ length w
  pub start : Start (take k w)
  pub longest : (j : ℕ) → k < j → j ≤ length w → Start (take j w) → ⊥

-- Some text goes on from w to complete types in a row, however deep.
pub record StartAtAnyDepth (w : Text) : Type 0 where
  pub shapes : Shapes
  pub rest : Text
  pub text : w ++ rest ≡ printed_all shapes

-- The byte at k is 'a' or '(', a type may begin there, and the depth limit alone forbids it.
pub record Deep (w : Text) (k : ℕ) : Type 0 where
  pub opens : (slice_index w k ≡ 97) ⊎ (slice_index w k ≡ 40)
  pub shape : Shape
  pub begins : Start (take k w ++ printed shape)
  pub alone : StartAtAnyDepth (take (k + 1) w)

abbrev pub Because : Text → ℕ → Cause → Type 0
Because w k Ended = k ≡ length w
Because w k TooDeep = (k < length w) × Deep w k
Because w k Unexpected = (k < length w) × (Deep w k → ⊥)

-- The fault of a text that is not valid: where it goes wrong, and why.
pub record FaultOf (w : Text) (f : Fault) : Type 0 where
  pub invalid : Valid w → ⊥
  pub place : Place w f.place
  pub because : Because w f.place f.cause
