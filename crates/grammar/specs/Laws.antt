-- What holds of the grammar.
use Rattle.std.specs.Prelude.{◌≡◌, ◌↔◌, [], ◌∷◌, ◌++◌}
use Rattle.std.proofs.Math.Option.{none, some}
use Rattle.grammar.specs.declared.error.Fault.{Fault}
use Rattle.grammar.specs.Shape.{Text, Shape, Shapes, structure, more, printed, printed_all}
use Rattle.grammar.specs.Valid.{Valid, FaultOf}
use Rattle.grammar.specs.Scan.{fault}
use Rattle.grammar.specs.Read.{reading, read_all}

-- No complete type is a proper start of another.
abbrev pub PrefixFree : Type 0
PrefixFree = (t u : Shape) (rest : Text) → printed u ≡ printed t ++ rest → rest ≡ []

-- Shapes with the same printed bytes are the same, and so are rows of shapes.
abbrev pub UniqueReading : Type 0
UniqueReading = ((t u : Shape) → printed t ≡ printed u → t ≡ u) × ((ts us : Shapes) → printed_all ts ≡ printed_all us → ts ≡ us)

-- A text that is not valid has one fault, and only one.
pub record OneFault (w : Text) : Type 0 where
  pub fault : Fault
  pub is : FaultOf w fault
  pub only : (f : Fault) → FaultOf w f → f ≡ fault

-- A text that is not valid has exactly one fault, and a valid one has none.
pub record FaultsAre (w : Text) : Type 0 where
  pub one : (Valid w → ⊥) → OneFault w
  pub no_fault : Valid w → (f : Fault) → FaultOf w f → ⊥

abbrev pub ExactlyOneFault : Type 0
ExactlyOneFault = (w : Text) → FaultsAre w

-- The text of types in a row is the printed form of their structure without its outer pair.
abbrev pub BareStructure : Type 0
BareStructure = (t : Shape) (ts : Shapes) → printed (structure t ts) ≡ 40 ∷ (printed_all (more t ts) ++ 41 ∷ [])

-- The reading that computes finds no fault exactly in the valid texts, and in each other text its fault.
pub record ScansExactly (w : Text) : Type 0 where
  pub valid : (fault w ≡ none) ↔ Valid w
  pub faulty : (f : Fault) → (fault w ≡ some f) ↔ FaultOf w f

abbrev pub ScanIsExact : Type 0
ScanIsExact = (w : Text) → ScansExactly w

-- Reading back is the way back from printing.
pub record ReadsExactly (w : Text) : Type 0 where
  pub type : (t : Shape) → (reading w ≡ some t) ↔ (w ≡ printed t)
  pub types : (ts : Shapes) → (read_all w ≡ some ts) ↔ (w ≡ printed_all ts)

abbrev pub ReadingIsExact : Type 0
ReadingIsExact = (w : Text) → ReadsExactly w
