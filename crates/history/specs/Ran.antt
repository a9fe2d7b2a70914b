-- Calls made on a sheet one after another.
use Rattle.std.specs.Prelude.{◌≡◌, ℕ, List, length, Result}
use Rattle.grammar.specs.declared.error.Refusal.{Refusal}
use Rattle.book.specs.Plain.{Call, run}
use Rattle.layout.specs.Called.{Stands}
use Rattle.sheet.specs.declared.sheet.Sheet.{Sheet}
use Rattle.sheet.specs.Seen.{book_in, limits_in}
use Rattle.history.specs.Calls.{Recorded}

-- The calls on the sheet are those calls on the plain book.
pub record Ran (cs : List Call) (s s' : Sheet) (old new : List (Result ℕ Refusal)) : Type 0 where
  pub answers : Recorded (run (limits_in s) (book_in s) cs).0 old new
  pub book : book_in s' ≡ (run (limits_in s) (book_in s) cs).1
  pub limits : limits_in s' ≡ limits_in s
  pub types_long : length s'.types.rows.now ≡ length s.types.rows.now
  pub fields_long : length s'.fields.rows.now ≡ length s.fields.rows.now
  pub stands : Stands s'.types s'.fields (book_in s')
