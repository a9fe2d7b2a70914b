use Rattle.std.proofs.Common.{◌≡◌, length, take}
use Rattle.layout.specs.Laid.{Laid}
use Rattle.sheet.proofs.lay.lay.Given as goal

abbrev pub invariant-loop-i : goal.invariant-loop-i
invariant-loop-i l = record {
  laid : Laid l.initial.list.rows.now l.initial.list.count l.initial.list.cap l.fs (length l.i-iterator.iter.iter.rest.now) l.list.rows.now l.list.count l.next;
  cap : l.list.cap ≡ l.initial.list.cap;
  rest : l.i-iterator.iter.iter.rest.now ≡ take (length l.i-iterator.iter.iter.rest.now) l.fs;
  from : l.i-iterator.iter.count ≡ 0;
}
