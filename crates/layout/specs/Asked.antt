-- The row of a number, and what it shows.
use Rattle.std.specs.Prelude.{◌≡◌, ℕ, ◌+◌, ◌-◌, ◌<◌, cond, List, length, nat_lt, slice_index_or}
use Rattle.std.proofs.Math.Option.{Option, none, some}
use Rattle.book.specs.Nodes.{Node, array, maybe, dict, structure}
use Rattle.layout.specs.declared.row.TypeRow.{TypeRow}
use Rattle.layout.specs.declared.row.FieldRow.{FieldRow}
use Rattle.layout.specs.declared.row.Kind.TheVariants.{Blank, Array, Dict, Structure, Maybe}
use Rattle.layout.specs.Tails.{tail_at, row_tails}

-- the container with a number; Unit and the basic codes are none
abbrev pub container_at : List Node → ℕ → Option Node
container_at b n = cond (nat_lt n 15) none (some (slice_index_or b (n - 15) (array 0)))

-- what a row shows of its container
abbrev pub Shows : List FieldRow → TypeRow → Option Node → Type 0
Shows F x none = x.kind ≡ Blank
Shows F x (some (array n)) = (x.kind ≡ Array) × (x.first ≡ n)
Shows F x (some (maybe n)) = (x.kind ≡ Maybe) × (x.first ≡ n)
Shows F x (some (dict k v)) = (x.kind ≡ Dict) × (x.first ≡ k) × (x.second ≡ v)
Shows F x (some (structure fs)) = (x.kind ≡ Structure) × (tail_at (row_tails F) x.first ≡ fs) × (x.second ≡ length fs)

-- the row of a known number; it is blank for Unit and the basic codes
pub record Shown (b : List Node) (F : List FieldRow) (n : ℕ) (x : TypeRow) : Type 0 where
  pub known : n < 15 + length b
  pub shows : Shows F x (container_at b n)
