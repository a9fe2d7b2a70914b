use Rattle.std.proofs.Common.{rules, refl}
use Rattle.building.proofs.Shifts.{goes_from}
use Rattle.layout.proofs.Undo.{grew_same, unchanged_refl}
use Rattle.sheet.proofs.entering.enter.Goals as goal

pub returns : goal.returns
returns c = let g = goes_from c.build.ensures.grew (refl, grew_same _ _ _ _ (unchanged_refl _ _)) in search rules
