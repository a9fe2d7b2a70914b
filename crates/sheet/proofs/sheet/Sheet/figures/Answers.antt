use Rattle.sheet.proofs.Shown.{row_figured}
use Rattle.sheet.proofs.sheet.Sheet.figures.Goals as goal

pub returns-in-Some-type_row-clause-figures : goal.returns-in-Some-type_row-clause-figures
returns-in-Some-type_row-clause-figures c = row_figured c.args.self.now c.args.n _ c.in-Some-type_row.row c.in-Some.ensures c.in-Some-type_row.ensures.row
