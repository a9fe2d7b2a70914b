use Rattle.sheet.proofs.Shown.{container_row}
use Rattle.sheet.proofs.sheet.Sheet.container.Goals as goal

pub returns-in-Some-clause-row : goal.returns-in-Some-clause-row
returns-in-Some-clause-row c = rw c.ok_or.ensures.value (container_row c.args.self.now c.args.n c.in-Some.i c.type_row.result c.in-Some.ensures c.type_row.ensures.row)
