use Rattle.std.proofs.Common.{◌≡◌, ◌+◌, ◌-◌, ◌*◌, ◌≤◌, ◌++◌, List, ℕ, length}
use Rattle.building.specs.Building.{Goes}
use Rattle.building.proofs.InRow.{Fielding}
use Rattle.building.proofs.entering.Builder.+bare_signature_many_signature.Given as goal

abbrev pub decreases-many : goal.decreases-many
decreases-many g l = 3 * (length l.self.now.cursor.text.now - l.self.now.cursor.at) + 2

abbrev pub decreases-signature : goal.decreases-signature
decreases-signature g l = 3 * (length l.self.now.cursor.text.now - l.self.now.cursor.at) + 1

abbrev pub decreases-bare_signature : goal.decreases-bare_signature
decreases-bare_signature g l = 3 * (length l.self.now.cursor.text.now - l.self.now.cursor.at)

abbrev pub invariant-many-loop-self : goal.invariant-many-loop-self
invariant-many-loop-self g l = record {
  same_maker : l.self.maker.ghost_name ≡ l.initial.self.maker.ghost_name;
  text : l.self.cursor.text.now ≡ l.initial.self.cursor.text.now;
  forward : l.initial.self.cursor.at ≤ l.self.cursor.at;
  grew : Goes g.M.Maker.grew g.M.Maker.limits l.initial.self.maker.now l.self.maker.now;
  fields : (ns : List ℕ) × (l.self.pending.items ≡ l.initial.self.pending.items ++ ns)
      × Fielding l.initial.self.cursor.text.now l.initial.self.cursor.at l.self.cursor.at (g.M.Maker.book l.initial.self.maker.now) ns (g.M.Maker.book l.self.maker.now);
}

abbrev pub decreases-many-loop-self : goal.decreases-many-loop-self
decreases-many-loop-self g l = length l.self.cursor.text.now - l.self.cursor.at
