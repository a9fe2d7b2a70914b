-- The lists of rows of a sheet, and a structure that may be filed on them.
use Rattle.std.specs.Prelude.{◌≡◌, ℕ, ◌<◌, ◌≤◌, List, [], length, slice_index}
use Rattle.grammar.specs.declared.figures.Figures.{Figures}
use Rattle.rows.specs.declared.RowList.{RowList}
use Rattle.book.specs.Nodes.{structure, node_figures, figures_from, Part}
use Rattle.layout.specs.declared.row.TypeRow.{TypeRow}
use Rattle.layout.specs.declared.row.FieldRow.{FieldRow}
use Rattle.layout.specs.Kept.{Kept, nodes_of}

-- all that the lists of a sheet keep
pub record Whole (t : RowList TypeRow) (f : RowList FieldRow) : Type 0 where
  pub types_within : t.count ≤ t.cap
  pub types_usable : t.cap ≤ length t.rows.now
  pub types_most : t.cap ≤ 65520
  pub fields_within : f.count ≤ f.cap
  pub fields_usable : f.cap ≤ length f.rows.now
  pub fields_most : f.cap ≤ 65535
  pub kept : Kept t.rows.now t.count f.rows.now f.count

-- each of the numbers is a part, where m containers are known
abbrev pub AllParts : ℕ → List ℕ → Type 0
AllParts m fs = (i : ℕ) → i < length fs → Part m (slice_index fs i)

-- Fields that make a structure with these figures.
pub record Structured (t : RowList TypeRow) (f : RowList FieldRow) (fs : List ℕ) (whole : Figures) : Type 0 where
  pub parts : AllParts (length (nodes_of t f)) fs
  pub some : 0 < length fs
  pub few : length fs ≤ 65535
  pub figures : whole ≡ node_figures (figures_from [] (nodes_of t f)) (structure fs)
  pub short : whole.length ≤ 65535
