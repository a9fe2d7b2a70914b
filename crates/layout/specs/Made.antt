-- What a maker answers, and what the sheet holds after.
use Rattle.std.specs.Prelude.{◌≡◌, ℕ, List}
use Rattle.grammar.specs.Refusals.{accepted, refused}
use Rattle.rows.specs.declared.RowList.{RowList}
use Rattle.book.specs.Plain.{Answer}
use Rattle.book.specs.Nodes.{Node}
use Rattle.layout.specs.declared.row.TypeRow.{TypeRow}
use Rattle.layout.specs.declared.row.FieldRow.{FieldRow}
use Rattle.layout.specs.Kept.{nodes_of, tails_in}
use Rattle.layout.specs.Grown.{Grew, Unchanged}

-- P, where the answer is a refusal
abbrev pub OnRefusal : Answer → Type 0 → Type 0
OnRefusal (accepted n) P = Unit {0}
OnRefusal (refused e vs) P = P

-- an answer and the containers after it, with these tails
abbrev pub with_tails : List (List ℕ) → Answer × List Node → Answer × List Node × List (List ℕ)
with_tails T r = (r.0, r.1, T)

-- The call answered r, and the containers and the tails after it are those that are said.
pub record Made (t : RowList TypeRow) (f : RowList FieldRow) (t' : RowList TypeRow) (f' : RowList FieldRow) (r : Answer) (said : Answer × List Node × List (List ℕ)) : Type 0 where
  pub answer : r ≡ said.0
  pub nodes : nodes_of t' f' ≡ said.1
  pub tails : tails_in f' ≡ said.2
  pub grew : Grew t f t' f'
  pub unchanged : OnRefusal r (Unchanged t f t' f')
