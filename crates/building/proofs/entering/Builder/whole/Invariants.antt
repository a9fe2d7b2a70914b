use Rattle.std.proofs.Common.{◌≡◌, ◌-◌, length}
use Rattle.building.specs.Building.{Goes}
use Rattle.building.proofs.InRow.{Wholing}
use Rattle.building.proofs.entering.Builder.whole.Given as goal

abbrev pub invariant-loop-self : goal.invariant-loop-self
invariant-loop-self g l = record {
  same_maker : l.self.maker.ghost_name ≡ l.initial.self.maker.ghost_name;
  text : l.self.cursor.text.now ≡ l.initial.self.cursor.text.now;
  grew : Goes g.M.Maker.grew g.M.Maker.limits l.initial.self.maker.now l.self.maker.now;
  row : Wholing l.initial.self.cursor.text.now l.self.cursor.at (g.M.Maker.book l.initial.self.maker.now) l.self.pending.items (g.M.Maker.book l.self.maker.now);
}

abbrev pub decreases-loop-self : goal.decreases-loop-self
decreases-loop-self g l = length l.self.cursor.text.now - l.self.cursor.at
