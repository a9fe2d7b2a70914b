-- A sheet and the plain book of its texts.
use Rattle.std.specs.Prelude.{◌≡◌, ℕ, ◌<◌, ◌≤◌, List, [], map, length, slice_index_or}
use Rattle.grammar.specs.Shape.{Text}
use Rattle.grammar.specs.Figures.{text_figures}
use Rattle.rows.specs.declared.RowList.{RowList}
use Rattle.book.specs.Plain.{Answer, Call, Limits, opened, call, tails_of}
use Rattle.book.specs.Nodes.{texts_of}
use Rattle.book.specs.Rows.{type_key_of, field_key_of}
use Rattle.layout.specs.declared.row.TypeRow.{TypeRow}
use Rattle.layout.specs.declared.row.FieldRow.{FieldRow}
use Rattle.layout.specs.Tails.{blank_field, field_key}
use Rattle.layout.specs.Kept.{nodes_of, types_in, fields_in, type_key, figures_in, blank_type}
use Rattle.layout.specs.Grown.{Unchanged}
use Rattle.layout.specs.Made.{OnRefusal}

-- the texts of the containers on a sheet, and how many rows of each kind can be used
abbrev pub book_of : RowList TypeRow → RowList FieldRow → List Text
book_of t f = texts_of (nodes_of t f)

abbrev pub limits_of : RowList TypeRow → RowList FieldRow → Limits
limits_of t f = record { types = t.cap; fields = f.cap }

-- The rows and counts are those of a book: a type row for each text, a field row for each tail, all others blank.
pub record Stands (t : RowList TypeRow) (f : RowList FieldRow) (b : List Text) : Type 0 where
  pub types_count : t.count ≡ length b
  pub type_keys : map type_key (types_in t) ≡ map (type_key_of b) b
  pub type_figures : map figures_in (types_in t) ≡ map text_figures b
  pub types_blank : (k : ℕ) (d : TypeRow) → t.count ≤ k → k < length t.rows.now → slice_index_or t.rows.now k d ≡ blank_type
  pub fields_count : f.count ≡ length (tails_of b)
  pub field_keys : map field_key (fields_in f) ≡ map (field_key_of b) (tails_of b)
  pub fields_blank : (k : ℕ) (d : FieldRow) → f.count ≤ k → k < length f.rows.now → slice_index_or f.rows.now k d ≡ blank_field

-- A call on the sheet is that call on the plain book; a refusal leaves the sheet as it was.
pub record Called (t : RowList TypeRow) (f : RowList FieldRow) (t' : RowList TypeRow) (f' : RowList FieldRow) (r : Answer) (c : Call) : Type 0 where
  pub answer : r ≡ (call (limits_of t f) (book_of t f) c).0
  pub book : book_of t' f' ≡ (call (limits_of t f) (book_of t f) c).1
  pub limits : limits_of t' f' ≡ limits_of t f
  pub types_long : length t'.rows.now ≡ length t.rows.now
  pub fields_long : length f'.rows.now ≡ length f.rows.now
  pub stands : Stands t' f' (book_of t' f')
  pub unchanged : OnRefusal r (Unchanged t f t' f')

-- Opening on so many lent rows of each kind gives the empty book.
pub record Opened (types fields : ℕ) (t : RowList TypeRow) (f : RowList FieldRow) : Type 0 where
  pub book : book_of t f ≡ []
  pub limits : limits_of t f ≡ opened types fields
  pub types_long : length t.rows.now ≡ types
  pub fields_long : length f.rows.now ≡ fields
  pub stands : Stands t f []
