use Rattle.export.proofs.Replying.{replied_as}
use Rattle.export.proofs.signature_validate.Goals as goal

pub returns : goal.returns
returns c = replied_as _ _ _ c.from.ensures c.validate.ensures
