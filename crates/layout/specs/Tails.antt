-- Field rows, as the tails of field lists that they hold.
use Rattle.std.specs.Prelude.{◌≡◌, ℕ, zero, suc, ◌<◌, ◌≤◌, Bool, List, [], ◌∷◌, ◌++◌, length, get_or, ◌≢◌, nat_eq, slice_index_or}
use Rattle.grammar.specs.Lists.{same_list}
use Rattle.book.specs.Rows.{tail_key}
use Rattle.layout.specs.declared.row.FieldRow.{FieldRow}

abbrev pub blank_field : FieldRow
blank_field = record { field = 0; next = 0; count = 0 }

abbrev pub field_key : FieldRow → List ℕ
field_key r = r.field ∷ r.next ∷ r.count ∷ []

abbrev pub same_tail : List ℕ → List ℕ → Bool
same_tail = same_list nat_eq

-- the tail at a place: 0 has the empty one, 1 the first of T
abbrev pub tail_at : List (List ℕ) → ℕ → List ℕ
tail_at T zero = []
tail_at T (suc i) = slice_index_or T i []

-- the tails that field rows hold, each from the rows before it
unfoldable pub row_tails_from : List (List ℕ) → List FieldRow → List (List ℕ)
row_tails_from T [] = T
row_tails_from T (r ∷ rs) = row_tails_from (T ++ (r.field ∷ tail_at T r.next) ∷ []) rs

abbrev pub row_tails : List FieldRow → List (List ℕ)
row_tails F = row_tails_from [] F

-- Each field row is that of its tail, and no tail stands twice.
pub record FieldsGood (F : List FieldRow) : Type 0 where
  pub keys : (k : ℕ) → k < length F → field_key (slice_index_or F k blank_field) ≡ tail_key (row_tails F) (slice_index_or (row_tails F) k [])
  pub apart : (j k : ℕ) → j < k → k < length F → slice_index_or (row_tails F) j [] ≢ slice_index_or (row_tails F) k []
  pub next : (k : ℕ) → k < length F → (get_or F k blank_field).next ≤ k
