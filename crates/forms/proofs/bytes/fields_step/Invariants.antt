use Rattle.std.proofs.Common.{◌≡◌}
use Rattle.sheet.specs.Seen.{book_in}
use Rattle.forms.specs.Steps.{fields_from}
use Rattle.forms.proofs.Leading.{Reached}
use Rattle.forms.proofs.bytes.fields_step.Given as goal

abbrev pub invariant-loop-row : goal.invariant-loop-row
invariant-loop-row l = record {
  same : l.sheet ≡ l.initial.sheet;
  reached : Reached (book_in l.initial.sheet) 41 (fields_from l.initial.sheet l.first) l.p (fields_from l.initial.sheet l.at) l.left;
}

abbrev pub decreases-loop-row : goal.decreases-loop-row
decreases-loop-row l = l.at
