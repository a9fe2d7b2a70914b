-- What laying a field list does to the field rows.
use Rattle.std.specs.Prelude.{◌≡◌, ℕ, ◌<◌, ◌≤◌, List, length, take, drop, slice_index_or}
use Rattle.book.specs.Makers.{add_tails}
use Rattle.layout.specs.declared.row.FieldRow.{FieldRow}
use Rattle.book.specs.Rows.{tail_number}
use Rattle.layout.specs.Tails.{blank_field, row_tails, FieldsGood}

-- Field rows to which a list may be laid: good, and blank past the count.
pub record Ready (rows : List FieldRow) (n cap : ℕ) : Type 0 where
  pub good : FieldsGood (take n rows)
  pub within : n ≤ cap
  pub usable : cap ≤ length rows
  pub most : cap ≤ 65535
  pub blank : (k : ℕ) → n ≤ k → slice_index_or rows k blank_field ≡ blank_field

-- The tails of fs from i on are laid, and the longest is at `at`.
pub record Laid (old : List FieldRow) (m cap : ℕ) (fs : List ℕ) (i : ℕ) (new : List FieldRow) (n at : ℕ) : Type 0 where
  pub ready : Ready new n cap
  pub lists : row_tails (take n new) ≡ add_tails (row_tails (take m old)) (drop i fs)
  pub next : at ≡ tail_number (row_tails (take n new)) (drop i fs)
  pub found : at ≤ n
  pub low : m ≤ n
  pub long : length new ≡ length old
  pub same : (k : ℕ) (d : FieldRow) → k < m → slice_index_or new k d ≡ slice_index_or old k d
  pub rest : (k : ℕ) (d : FieldRow) → n ≤ k → slice_index_or new k d ≡ slice_index_or old k d

-- There is no room for all tails of fs, and nothing is changed.
pub record NoRoom (old : List FieldRow) (m cap : ℕ) (fs : List ℕ) (new : List FieldRow) (n : ℕ) : Type 0 where
  pub rows : new ≡ old
  pub count : n ≡ m
  pub full : cap < length (add_tails (row_tails (take m old)) fs)
