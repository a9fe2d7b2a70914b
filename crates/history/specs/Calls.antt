-- Calls as values, and their answers.
use Rattle.std.specs.Prelude.{◌≡◌, ℕ, ◌<◌, ◌≤◌, List, map, length, Result, slice_index_or}
use Rattle.grammar.specs.declared.error.Refusal.{Refusal}
use Rattle.grammar.specs.Refusals.{outcome}
use Rattle.book.specs.Plain.{Answer, from_bytes, array, dict, structure, maybe}
use Rattle.book.specs.Plain
use Rattle.history.specs.declared.calls.Call.{Call}
use Rattle.history.specs.declared.calls.Call.TheVariants.{FromBytes, Array, Dict, Structure, Maybe}

-- a call as the plain book takes it
abbrev pub call_of : Call → Plain.Call
call_of (FromBytes text) = from_bytes text.now
call_of (Array child) = array child
call_of (Dict key value) = dict key value
call_of (Structure fields) = structure fields.now
call_of (Maybe child) = maybe child

abbrev pub calls_of : List Call → List Plain.Call
calls_of cs = map call_of cs

-- The places hold the answers in their order, as far as there are places; a place past the answers keeps what it held.
pub record Recorded (said : List Answer) (old new : List (Result ℕ Refusal)) : Type 0 where
  pub long : length new ≡ length old
  pub answers : (i : ℕ) (d : Result ℕ Refusal) (a : Answer) → i < length said → i < length old → outcome (slice_index_or new i d) ≡ slice_index_or said i a
  pub rest : (i : ℕ) (d : Result ℕ Refusal) → length said ≤ i → slice_index_or new i d ≡ slice_index_or old i d
