-- The refusals: the number of each, and the values that it gives.
use Rattle.std.specs.Prelude.{ℕ, List, [], ◌∷◌, ◌++◌, Ok, Err, decimal, Result}
use Rattle.grammar.specs.declared.error.Cause.{Cause}
use Rattle.grammar.specs.declared.error.Cause.TheVariants.{Ended, TooDeep, Unexpected}
use Rattle.grammar.specs.declared.error.Refusal.{Refusal}
use Rattle.grammar.specs.declared.error.Refusal.TheVariants.{TextTooLong, Invalid, Unknown, UnitPart, NoFields, WrongKind, FormTooLong, NoRows, ShortBuffer}

-- the letter of a cause: E, D or U
abbrev pub letter_of : Cause → ℕ
letter_of Ended = 69
letter_of TooDeep = 68
letter_of Unexpected = 85

abbrev pub number_of : Refusal → ℕ
number_of TextTooLong = 1
number_of (Invalid f) = 2
number_of (Unknown p) = 3
number_of (UnitPart p) = 4
number_of NoFields = 5
number_of WrongKind = 6
number_of FormTooLong = 7
number_of NoRows = 8
number_of ShortBuffer = 9

-- a cause's letter and a place; a position among the numbers given
abbrev pub values_of : Refusal → List ℕ
values_of TextTooLong = []
values_of (Invalid f) = letter_of f.cause ∷ f.place ∷ []
values_of (Unknown p) = p ∷ []
values_of (UnitPart p) = p ∷ []
values_of NoFields = []
values_of WrongKind = []
values_of FormTooLong = []
values_of NoRows = []
values_of ShortBuffer = []

-- What a call says: a value, or the number of a refusal with the values that it gives.
pub data Outcome (A : Type 0) : Type 0 where
  accepted : A → Outcome A
  refused : ℕ → List ℕ → Outcome A

abbrev pub outcome : {A : Type 0} → Result A Refusal → Outcome A
outcome (Ok x) = accepted x
outcome (Err e) = refused (number_of e) (values_of e)

-- A refusal as it is shown: its number and its values, a space (32) before each; a cause is its letter.
abbrev pub shown_of : Refusal → List ℕ
shown_of TextTooLong = decimal 1
shown_of (Invalid f) = decimal 2 ++ 32 ∷ letter_of f.cause ∷ 32 ∷ decimal f.place
shown_of (Unknown p) = decimal 3 ++ 32 ∷ decimal p
shown_of (UnitPart p) = decimal 4 ++ 32 ∷ decimal p
shown_of NoFields = decimal 5
shown_of WrongKind = decimal 6
shown_of FormTooLong = decimal 7
shown_of NoRows = decimal 8
shown_of ShortBuffer = decimal 9
