-- What a list of rows answers, and what it holds after.
use Rattle.std.specs.Prelude.{◌≡◌, ℕ, ◌+◌, ◌<◌, ◌≤◌, min, ◌⊎◌, List, length, ◌≢◌, slice_index_or, slice_set}
use Rattle.rows.specs.declared.RowList.{RowList}

-- how many rows are in use: the first `count`, or all where there are not so many
abbrev pub used : {R : Type 0} → RowList R → ℕ
used l = min l.count (length l.rows.now)

-- x is the row in use at place i
pub record Located {R : Type 0} (l : RowList R) (i : ℕ) (x : R) : Type 0 where
  pub below : i < used l
  pub here : (d : R) → x ≡ slice_index_or l.rows.now i d

-- no row among the first n has the key k
abbrev pub Absent : {R : Type 0} → (R → List ℕ) → List R → ℕ → List ℕ → Type 0
Absent {R} key rows n k = (i : ℕ) (d : R) → i < n → key (slice_index_or rows i d) ≢ k

-- What place i answers: a row in use with the key, and nothing changed; or the row itself, added after the last.
pub record Held {R : Type 0} (key : R → List ℕ) (old : List R) (n cap : ℕ) (row : R) (new : List R) (m i : ℕ) : Type 0 where
  pub rows : new ≡ old
  pub count : m ≡ n
  pub below : i < min n (length old)
  pub same : (d : R) → key (slice_index_or old i d) ≡ key row

pub record Added {R : Type 0} (key : R → List ℕ) (old : List R) (n cap : ℕ) (row : R) (new : List R) (m i : ℕ) : Type 0 where
  pub rows : new ≡ slice_set old (min n (length old)) row
  pub count : m ≡ min n (length old) + 1
  pub place : i ≡ min n (length old)
  pub room : min n (length old) < min cap (length old)
  pub absent : Absent key old (min n (length old)) (key row)

-- no row with the key, and none unused
pub record Refused {R : Type 0} (key : R → List ℕ) (old : List R) (n cap : ℕ) (row : R) (new : List R) (m : ℕ) : Type 0 where
  pub rows : new ≡ old
  pub count : m ≡ n
  pub full : min cap (length old) ≤ min n (length old)
  pub absent : Absent key old (min n (length old)) (key row)

abbrev pub Place : {R : Type 0} → (R → List ℕ) → List R → ℕ → ℕ → R → List R → ℕ → ℕ → Type 0
Place key old n cap row new m i = Held key old n cap row new m i ⊎ Added key old n cap row new m i
