use Rattle.grammar.specs.Scan.{close}
use Rattle.std.proofs.Common.{[], ◌∷◌}
use Rattle.reader.proofs.Joins.{end_passed, end_unexpected, ended}
use Rattle.grammar.proofs.ScanSteps.{run_close}
use Rattle.reader.proofs.reading.end.Goals as goal

pub returns-then-b-eq125 : goal.returns-then-b-eq125
returns-then-b-eq125 c = record { same = c.take.ensures.text; outcome = end_passed _ _ _ _ c.in-Some.ensures.byte c.if-b-eq125.true }

pub returns-else-b-eq125 : goal.returns-else-b-eq125
returns-else-b-eq125 c = record { same = c.take.ensures.text; outcome = rw c.behind.ensures (end_unexpected _ _ _ _ c.in-Some.ensures.byte c.if-b-eq125.false) }

pub returns-in_default : goal.returns-in_default
returns-in_default c = record { same = c.take.ensures.text; outcome = ended _ _ _ (close ∷ []) run_close c.in_default.ensures.byte.0 c.in_default.ensures.byte.1 }
