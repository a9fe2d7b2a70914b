use Rattle.worked.proofs.Computed.{holds}
use Rattle.worked.proofs.table_holds.Goals as goal

pub returns : goal.returns
returns c = holds
