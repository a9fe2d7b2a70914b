-- What the rows of a sheet hold, and what every sheet keeps.
use Rattle.std.specs.Prelude.{◌≡◌, ℕ, ◌<◌, ◌≤◌, List, [], ◌∷◌, map, length, take, ◌≢◌, slice_index_or}
use Rattle.grammar.specs.declared.figures.Figures.{Figures}
use Rattle.rows.specs.declared.RowList.{RowList}
use Rattle.book.specs.Nodes.{Node, array, maybe, dict, structure, blank_figures, node_figures, figures_from, tails_of, Known, Chain}
use Rattle.book.specs.Rows.{node_key}
use Rattle.layout.specs.declared.row.TypeRow.{TypeRow}
use Rattle.layout.specs.declared.row.FieldRow.{FieldRow}
use Rattle.layout.specs.declared.row.Kind.{Kind}
use Rattle.layout.specs.declared.row.Kind.TheVariants.{Blank, Array, Dict, Structure, Maybe}
use Rattle.layout.specs.Kinds.{kind_number}
use Rattle.layout.specs.Tails.{blank_field, tail_at, row_tails, FieldsGood}

abbrev pub blank_type : TypeRow
blank_type = record { kind = Blank; first = 0; second = 0; figures = blank_figures }

abbrev pub type_key : TypeRow → List ℕ
type_key r = kind_number r.kind ∷ r.first ∷ r.second ∷ []

abbrev pub figures_in : TypeRow → Figures
figures_in r = r.figures

-- the container that a kind and two parts stand for; a blank row stands for none, and is read as a maybe
abbrev pub node_by : List FieldRow → Kind → ℕ → ℕ → Node
node_by F Blank a b = maybe a
node_by F Array a b = array a
node_by F Dict a b = dict a b
node_by F Structure a b = structure (tail_at (row_tails F) a)
node_by F Maybe a b = maybe a

abbrev pub node_of : List FieldRow → TypeRow → Node
node_of F r = node_by F r.kind r.first r.second

abbrev pub nodes : List FieldRow → List TypeRow → List Node
nodes F L = map (node_of F) L

-- Each type row is that of its container, no two are the same, each one's parts stand before it, and the figures are
-- right.
pub record Good (L : List TypeRow) (F : List FieldRow) : Type 0 where
  pub keys : (k : ℕ) → k < length L → type_key (slice_index_or L k blank_type) ≡ node_key (row_tails F) (node_of F (slice_index_or L k blank_type))
  pub apart : (j k : ℕ) → j < k → k < length L → type_key (slice_index_or L j blank_type) ≢ type_key (slice_index_or L k blank_type)
  pub figures : map figures_in L ≡ figures_from [] (nodes F L)
  pub chain : Chain 0 (nodes F L)
  pub fields : FieldsGood F

-- the containers of the first rows
abbrev pub nodes_at : List TypeRow → ℕ → List FieldRow → ℕ → List Node
nodes_at types tn fields fn = nodes (take fn fields) (take tn types)

abbrev pub tails_at : List FieldRow → ℕ → List (List ℕ)
tails_at fields fn = row_tails (take fn fields)

-- The rows in use are good, and those past them are blank.
pub record Sound (types : List TypeRow) (tn : ℕ) (fields : List FieldRow) (fn : ℕ) : Type 0 where
  pub good : Good (take tn types) (take fn fields)
  pub types_blank : (k : ℕ) → tn ≤ k → slice_index_or types k blank_type ≡ blank_type
  pub fields_blank : (k : ℕ) → fn ≤ k → slice_index_or fields k blank_field ≡ blank_field

-- What every sheet keeps: its field rows are, besides, the tails of its structures.
pub record Kept (types : List TypeRow) (tn : ℕ) (fields : List FieldRow) (fn : ℕ) : Type 0 where
  pub sound : Sound types tn fields fn
  pub tails : tails_at fields fn ≡ tails_of (nodes_at types tn fields fn)

-- the containers and the tails on two lists of rows
abbrev pub nodes_of : RowList TypeRow → RowList FieldRow → List Node
nodes_of t f = nodes_at t.rows.now t.count f.rows.now f.count

abbrev pub tails_in : RowList FieldRow → List (List ℕ)
tails_in f = tails_at f.rows.now f.count

abbrev pub fields_in : RowList FieldRow → List FieldRow
fields_in f = take f.count f.rows.now

abbrev pub types_in : RowList TypeRow → List TypeRow
types_in t = take t.count t.rows.now

-- A row that may be added to the type rows L, over the field rows F.
pub record Fit (L : List TypeRow) (F : List FieldRow) (r : TypeRow) : Type 0 where
  pub coded : type_key r ≡ node_key (row_tails F) (node_of F r)
  pub figures : r.figures ≡ node_figures (figures_from [] (nodes F L)) (node_of F r)
  pub known : Known (length L) (node_of F r)
