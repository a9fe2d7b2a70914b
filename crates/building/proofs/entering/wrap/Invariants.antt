use Rattle.building.specs.Building.{Goes}
use Rattle.building.proofs.InRow.{Wrapping}
use Rattle.building.proofs.entering.wrap.Given as goal

abbrev pub invariant-loop-i : goal.invariant-loop-i
invariant-loop-i g l =
    Goes g.M.Maker.grew g.M.Maker.limits l.initial.maker l.maker
    × Wrapping (g.M.Maker.limits l.initial.maker) l.maybes l._i l.initial.n (g.M.Maker.book l.initial.maker) l.n (g.M.Maker.book l.maker)
