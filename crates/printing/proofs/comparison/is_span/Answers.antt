use Rattle.printing.proofs.Matching.{same_if, other_if}
use Rattle.printing.proofs.comparison.is_span.Goals as goal

pub returns-then-printed-clause-equal : goal.returns-then-printed-clause-equal
returns-then-printed-clause-equal c = same_if _ _ _ _ _ (rw (c.new-w.ensures.empty, c.new-w.ensures.held) at c.offer_span-printed.ensures.wrote) c.if-printed.true

pub returns-else-printed-clause-equal : goal.returns-else-printed-clause-equal
returns-else-printed-clause-equal c = other_if _ _ _ _ _ (rw (c.new-w.ensures.empty, c.new-w.ensures.held) at c.offer_span-printed.ensures.wrote) c.if-printed.false
