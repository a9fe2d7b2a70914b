-- A sheet as the plain book of its texts, and what calls on it say.
use Rattle.std.specs.Prelude.{◌≡◌, ℕ, List}
use Rattle.grammar.specs.Shape.{Text}
use Rattle.book.specs.Nodes.{Node}
use Rattle.book.specs.Plain.{Answer, Call, Limits}
use Rattle.layout.specs.Called.{book_of, limits_of, Called}
use Rattle.layout.specs.Grown.{Grew, Unchanged}
use Rattle.layout.specs.Kept.{nodes_of, tails_in}
use Rattle.layout.specs.Made.{Made}
use Rattle.sheet.specs.declared.sheet.Sheet.{Sheet}

-- the texts of the containers on a sheet, and how many rows of each kind can be used
abbrev pub book_in : Sheet → List Text
book_in s = book_of s.types s.fields

abbrev pub limits_in : Sheet → Limits
limits_in s = limits_of s.types s.fields

-- the containers and the tails on a sheet, by numbers
abbrev pub nodes_on : Sheet → List Node
nodes_on s = nodes_of s.types s.fields

abbrev pub tails_on : Sheet → List (List ℕ)
tails_on s = tails_in s.fields

-- A call on the sheet is that call on the plain book, and its rows are those of that book; a refusal leaves the sheet as
-- it was.
abbrev pub CalledOn : Sheet → Sheet → Answer → Call → Type 0
CalledOn s s' r c = Called s.types s.fields s'.types s'.fields r c

-- The call answered r, and the containers and the tails after it are those that are said.
abbrev pub MadeOn : Sheet → Sheet → Answer → Answer × List Node × List (List ℕ) → Type 0
MadeOn s s' r said = Made s.types s.fields s'.types s'.fields r said

-- Rows may have been added, and those that were in use are as they were.
abbrev pub GrewTo : Sheet → Sheet → Type 0
GrewTo s s' = Grew s.types s.fields s'.types s'.fields

-- s' grew from s, which had so many rows of each kind in use.
pub record GrewFrom (s : Sheet) (m n : ℕ) (s' : Sheet) : Type 0 where
  pub grew : GrewTo s s'
  pub types : s.types.count ≡ m
  pub fields : s.fields.count ≡ n

-- the two hold the same
abbrev pub UnchangedOn : Sheet → Sheet → Type 0
UnchangedOn s s' = Unchanged s.types s.fields s'.types s'.fields
