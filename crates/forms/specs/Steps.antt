-- The way from a container to the part in which a byte of its printed form stands.
use Rattle.std.specs.Prelude.{◌≡◌, ℕ, ◌<◌, List, [], ◌∷◌, ◌++◌, slice_get}
use Rattle.grammar.specs.Lists.{In}
use Rattle.grammar.specs.Shape.{Text}
use Rattle.book.specs.Plain.{text_of, texts}
use Rattle.book.specs.Nodes.{Node, array, maybe, dict, structure}
use Rattle.sheet.specs.declared.sheet.Sheet.{Sheet}
use Rattle.layout.specs.declared.row.TypeRow.{TypeRow}
use Rattle.layout.specs.declared.row.FieldRow.{FieldRow}
use Rattle.layout.specs.Tails.{tail_at, row_tails}
use Rattle.layout.specs.Kept.{fields_in, node_of}
use Rattle.forms.specs.declared.bytes.Step.{Step}
use Rattle.forms.specs.declared.bytes.Step.TheVariants.{Done, Part}

-- the text of a container, from those of its parts
abbrev pub node_text : List Text → Node → Text
node_text b (array n) = 97 ∷ text_of b n
node_text b (maybe n) = 109 ∷ text_of b n
node_text b (dict k v) = 97 ∷ 123 ∷ (text_of b k ++ (text_of b v ++ 125 ∷ []))
node_text b (structure fs) = 40 ∷ (texts b fs ++ 41 ∷ [])

abbrev pub parts_of : Node → List ℕ
parts_of (array n) = n ∷ []
parts_of (maybe n) = n ∷ []
parts_of (dict k v) = k ∷ v ∷ []
parts_of (structure fs) = fs

-- the container of a row, and the fields from a field row on
abbrev pub node_in : Sheet → TypeRow → Node
node_in s r = node_of (fields_in s.fields) r

abbrev pub fields_from : Sheet → ℕ → List ℕ
fields_from s at = tail_at (row_tails (fields_in s.fields)) at

-- x is the field row numbered `at`
pub record FieldHere (s : Sheet) (at : ℕ) (x : FieldRow) : Type 0 where
  pub fields : fields_from s at ≡ x.field ∷ fields_from s x.next
  pub next : x.next < at

-- byte p of the text w is byte q of the part m
pub record Within (b : List Text) (w : Text) (parts : List ℕ) (p m q : ℕ) : Type 0 where
  pub part : In m parts
  pub byte : slice_get (text_of b m) q ≡ slice_get w p

-- a step tells byte p of the text w, or leads to it in one of the parts
abbrev pub Leads : List Text → Text → List ℕ → ℕ → Step → Type 0
Leads b w parts p (Done c) = c ≡ slice_get w p
Leads b w parts p (Part m q) = Within b w parts p m q
