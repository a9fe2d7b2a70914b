use Rattle.std.proofs.Common.{◌≡◌}
use Rattle.book.specs.Plain.{text_of}
use Rattle.writers.proofs.Accepting.{Going}
use Rattle.sheet.specs.Seen.{book_in}
use Rattle.forms.specs.Spans.{bytes_in}
use Rattle.printing.proofs.printing.offer_span.Given as goal

abbrev pub invariant-loop-taken : goal.invariant-loop-taken
invariant-loop-taken g l = record {
  same : l.sheet ≡ l.initial.sheet;
  going : Going (g.W.Writer.state l.initial.w) (bytes_in l.span (text_of (book_in l.initial.sheet) l.n)) l.taken (g.W.Writer.state l.w);
}
