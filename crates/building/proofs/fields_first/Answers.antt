use Rattle.building.proofs.Growth.{with_structure}
use Rattle.building.proofs.fields_first.Goals as goal

pub returns : goal.returns
returns c = with_structure
