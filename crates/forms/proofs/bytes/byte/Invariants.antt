use Rattle.std.proofs.Common.{◌≡◌, slice_get}
use Rattle.book.specs.Plain.{text_of}
use Rattle.sheet.specs.Seen.{book_in}
use Rattle.forms.proofs.bytes.byte.Given as goal

-- the byte that is looked for is the one at a place of a part
abbrev pub invariant-loop-i : goal.invariant-loop-i
invariant-loop-i l = record {
  same : l.sheet ≡ l.initial.sheet;
  byte : slice_get (text_of (book_in l.initial.sheet) l.part) l.place ≡ slice_get (text_of (book_in l.initial.sheet) l.n) l.p;
}

abbrev pub decreases-loop-i : goal.decreases-loop-i
decreases-loop-i l = l.part
