use Rattle.std.proofs.Common.{◌≡◌, ◌≤◌, [], length, take, drop}
use Rattle.book.specs.Nodes.{field_figures, figures_from}
use Rattle.sheet.specs.Seen.{nodes_on}
use Rattle.sheet.proofs.sheet.Sheet.field_figures.Given as goal

abbrev pub invariant-loop-i : goal.invariant-loop-i
invariant-loop-i l = record {
  same : l.self ≡ l.initial.self;
  short : l.all.length ≤ 65535;
  figures : l.all ≡ field_figures (figures_from [] (nodes_on l.initial.self)) (drop (length l.i-iterator.iter.iter.rest.now) l.fs);
  rest : l.i-iterator.iter.iter.rest.now ≡ take (length l.i-iterator.iter.iter.rest.now) l.fs;
  from : l.i-iterator.iter.count ≡ 0;
}
