-- What reading a part says of the text, whatever is to come after that part.
use Rattle.std.specs.Prelude.{◌≡◌, ℕ, ◌+◌, ◌-◌, ◌<◌, ◌≤◌, List, ◌∷◌, ◌++◌, length, drop, Ok, Err, Result}
use Rattle.grammar.specs.declared.error.Fault.{Fault}
use Rattle.grammar.specs.Shape.{Text, Shapes, nil, more}
use Rattle.grammar.specs.Valid.{Valid, FaultOf}
use Rattle.grammar.specs.Scan.{Frame, one, run, bad}
use Rattle.reader.specs.declared.cursor.Cursor.{Cursor}

-- the frames fs are read from one place to another
pub record Passed (text : Text) (from : ℕ) (fs : List Frame) (to : ℕ) : Type 0 where
  pub forward : from < to
  pub within : to ≤ length text
  pub reads : (k : List Frame) → run (fs ++ k) (drop from text) ≡ run k (drop to text)

-- reading them breaks off at the fault
pub record Failed (text : Text) (from : ℕ) (fs : List Frame) (fault : Fault) : Type 0 where
  pub within : fault.place ≤ length text
  pub breaks : (k : List Frame) → run (fs ++ k) (drop from text) ≡ bad fault.cause (drop fault.place text)

abbrev pub Parsed : {X : Type 0} → Text → ℕ → List Frame → Result X Fault → ℕ → Type 0
Parsed text from fs (Ok x) to = Passed text from fs to
Parsed text from fs (Err f) to = Failed text from fs f

-- the first byte of a type behind each 'm'
pub record Opened (text : Text) (from : ℕ) (byte : ℕ) (to : ℕ) : Type 0 where
  pub forward : from < to
  pub within : to ≤ length text
  pub not_maybe : byte ≡ 109 → ⊥
  pub here : drop (to - 1) text ≡ byte ∷ drop to text
  pub reads : (s a : ℕ) (k : List Frame) → run (one s a ∷ k) (drop from text) ≡ run (one s a ∷ k) (byte ∷ drop to text)

-- what reading the frames fs does to a cursor
pub record Reading {X : Type 0} (before : Cursor) (fs : List Frame) (r : Result X Fault) (after : Cursor) : Type 0 where
  pub same : after.text.now ≡ before.text.now
  pub outcome : Parsed before.text.now before.at fs r after.at

-- how many shapes stand in a row
abbrev pub count_of : Shapes → ℕ
count_of nil = 0
count_of (more t ts) = count_of ts + 1

-- the text is valid, with so many types
pub record Counted (text : Text) (n : ℕ) : Type 0 where
  pub valid : Valid text
  pub count : n ≡ count_of valid.shapes

-- a whole text has so many types, or the fault
abbrev pub CountedOr : Text → Result ℕ Fault → Type 0
CountedOr text (Ok n) = Counted text n
CountedOr text (Err f) = FaultOf text f
