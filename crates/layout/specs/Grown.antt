-- Lists of rows before and after a call.
use Rattle.std.specs.Prelude.{◌≡◌, ℕ, ◌<◌, ◌≤◌, min, length, slice_index_or}
use Rattle.rows.specs.declared.RowList.{RowList}
use Rattle.layout.specs.declared.row.TypeRow.{TypeRow}
use Rattle.layout.specs.declared.row.FieldRow.{FieldRow}

-- Two lists hold the same.
pub record Same {R : Type 0} (a b : RowList R) : Type 0 where
  pub rows : a.rows.now ≡ b.rows.now
  pub count : a.count ≡ b.count
  pub cap : a.cap ≡ b.cap

-- Rows may have been added, and those that were in use are as they were.
pub record Grown {R : Type 0} (old new : RowList R) : Type 0 where
  pub cap : new.cap ≡ old.cap
  pub long : length new.rows.now ≡ length old.rows.now
  pub low : old.count ≤ new.count
  pub same : (k : ℕ) (d : R) → k < old.count → slice_index_or new.rows.now k d ≡ slice_index_or old.rows.now k d

-- The rows from `to` on are out of use, and blank.
pub record Cut {R : Type 0} (blank : R) (to : ℕ) (old new : RowList R) : Type 0 where
  pub count : new.count ≡ min to old.count
  pub cap : new.cap ≡ old.cap
  pub long : length new.rows.now ≡ length old.rows.now
  pub below : (k : ℕ) (d : R) → k < to → slice_index_or new.rows.now k d ≡ slice_index_or old.rows.now k d
  pub above : (k : ℕ) (d : R) → old.count ≤ k → slice_index_or new.rows.now k d ≡ slice_index_or old.rows.now k d
  pub between : (k : ℕ) (d : R) → to ≤ k → k < old.count → k < length old.rows.now → slice_index_or new.rows.now k d ≡ blank

-- The same of the two lists of a sheet.
pub record Unchanged (t : RowList TypeRow) (f : RowList FieldRow) (t' : RowList TypeRow) (f' : RowList FieldRow) : Type 0 where
  pub types : Same t' t
  pub fields : Same f' f

pub record Grew (t : RowList TypeRow) (f : RowList FieldRow) (t' : RowList TypeRow) (f' : RowList FieldRow) : Type 0 where
  pub types : Grown t t'
  pub fields : Grown f f'
