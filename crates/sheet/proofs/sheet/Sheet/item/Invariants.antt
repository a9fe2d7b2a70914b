use Rattle.std.proofs.Common.{◌≡◌, drop}
use Rattle.layout.specs.Tails.{tail_at}
use Rattle.sheet.specs.Seen.{tails_on}
use Rattle.sheet.proofs.sheet.Sheet.item.Given as goal

abbrev pub invariant-loop-k : goal.invariant-loop-k
invariant-loop-k l = record {
  same : l.self ≡ l.initial.self;
  walked : tail_at (tails_on l.initial.self) l.next ≡ drop l._k (tail_at (tails_on l.initial.self) l.initial.next);
}
