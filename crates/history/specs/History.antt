-- What holds of a sheet that was opened and on which any calls were made, each on what those before it left.
use Rattle.std.specs.Prelude.{◌≡◌, ℕ, ◌+◌, ◌<◌, ◌≤◌, true, ◌⊎◌, ◌↔◌, List, [], length, take, slice_index, slice_index_or}
use Rattle.grammar.specs.Lists.{In, Distinct}
use Rattle.grammar.specs.Shape.{Text}
use Rattle.grammar.specs.Figures.{text_figures}
use Rattle.grammar.specs.Refusals.{accepted}
use Rattle.writers.specs.State.{State}
use Rattle.book.specs.Plain.{Answer, Call, opened, known, text_of, run}
use Rattle.book.specs.History.{ContainerText, Tail}
use Rattle.layout.specs.declared.row.TypeRow.{TypeRow}
use Rattle.layout.specs.Called.{Stands}
use Rattle.sheet.specs.declared.sheet.Sheet.{Sheet}
use Rattle.sheet.specs.Seen.{book_in, limits_in}

-- The plain book's answers to the calls, and its texts after them, where it was opened on so many lent rows of each kind.
abbrev pub answers_of : ℕ → ℕ → List Call → List Answer
answers_of types fields cs = (run (opened types fields) [] cs).0

abbrev pub book_after : ℕ → ℕ → List Call → List Text
book_after types fields cs = (run (opened types fields) [] cs).1

-- A number is known on a sheet if it is at most 14 or its row is in use, and in a book if it has a text.
abbrev pub OnSheet : Sheet → ℕ → Type 0
OnSheet s n = (n ≤ 14) ⊎ ((k : ℕ) × (n ≡ 15 + k) × (k < s.types.count))

abbrev pub InBook : List Text → ℕ → Type 0
InBook b n = n < length (known b)

-- There are so many different things with the property: a list without repetition has them all, and nothing else.
pub record Number {A : Type 0} (count : ℕ) (P : A → Type 0) : Type 0 where
  pub list : List A
  pub once : Distinct list
  pub all : (x : A) → In x list ↔ P x
  pub long : length list ≡ count

-- What holds of the rows after the calls: the known numbers are the book's; every figure stored is the one worked out
-- from the printed bytes; as many type rows are in use as there are different containers among the accepted results and
-- their parts, and as many field rows as different non-empty tails of their field lists. The rows and counts are those of
-- the book, and each number answered is known.
pub record Filed (types fields : ℕ) (cs : List Call) (s : Sheet) : Type 0 where
  pub book : book_in s ≡ book_after types fields cs
  pub limits : limits_in s ≡ opened types fields
  pub known : (n : ℕ) → OnSheet s n ↔ InBook (book_after types fields cs) n
  pub answered : (n : ℕ) → In (accepted n) (answers_of types fields cs) → OnSheet s n
  pub figures : (k : ℕ) (d : TypeRow) → k < s.types.count → (slice_index_or s.types.rows.now k d).figures ≡ text_figures (text_of (book_after types fields cs) (15 + k))
  pub containers : Number s.types.count (ContainerText (answers_of types fields cs) (book_after types fields cs))
  pub tails : Number s.fields.count (Tail (answers_of types fields cs) (book_after types fields cs))
  pub rows : Stands s.types s.fields (book_after types fields cs)
  pub types_long : length s.types.rows.now ≡ types
  pub fields_long : length s.fields.rows.now ≡ fields

-- A writer in this state is empty, and declines none of the bytes of the text, offered in order.
pub record Willing (s : State) (w : Text) : Type 0 where
  pub empty : s.taken ≡ []
  pub takes : (i : ℕ) → i < length w → s.rule (take i w) (slice_index w i) ≡ true

-- One writer holds c and the other d: each the text of its number, and both the same bytes exactly when the numbers are
-- equal.
pub record ToldApart (b : List Text) (m n : ℕ) (c d : List ℕ) : Type 0 where
  pub first : c ≡ text_of b m
  pub second : d ≡ text_of b n
  pub same : (c ≡ d) ↔ (m ≡ n)

-- Two known numbers were written into two writers, which were in the states v and w before and are in v' and w' now.
pub record Written (b : List Text) (m n : ℕ) (v v' w w' : State) : Type 0 where
  pub apart : InBook b m → InBook b n → Willing v (text_of b m) → Willing w (text_of b n) → ToldApart b m n v'.taken w'.taken
