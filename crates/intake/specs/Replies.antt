-- What was done for a reply to a line, where all of it could be written.
use Rattle.std.specs.Prelude.{◌≡◌, ℕ, List}
use Rattle.std.specs.Borrow.{Bor, MutBor}
use Rattle.grammar.specs.Refusals.{Outcome, accepted, refused}
use Rattle.book.specs.Plain.{from_bytes}
use Rattle.sheet.specs.declared.sheet.Sheet.{Sheet}
use Rattle.sheet.specs.Seen.{book_in, CalledOn}
use Rattle.intake.specs.declared.filed.Filed.{Filed}
use Rattle.intake.specs.Filing.{number_in, Told}

-- `after` was done on the sheet with what was filed; a refusal is followed by nothing
abbrev pub Followed : (MutBor Sheet → Bor Filed → MutBor Sheet → Type 0) → Outcome Filed → Sheet → Sheet → Type 0
Followed after (accepted x) s s' = (p : MutBor Sheet) × (q : Bor Filed) × (p' : MutBor Sheet) × (p.now ≡ s) × (q.now ≡ x) × (p'.now ≡ s') × after p q p'
Followed after (refused e vs) s s' = s' ≡ s

-- The line was filed, and then `after` was done.
pub record Replied (after : MutBor Sheet → Bor Filed → MutBor Sheet → Type 0) (s : Sheet) (line : List ℕ) (s' : Sheet) : Type 0 where
  pub between : Sheet
  pub answer : Outcome Filed
  pub called : CalledOn s between (number_in answer) (from_bytes line)
  pub told : Told (book_in between) answer
  pub followed : Followed after answer between s'
