use Rattle.std.proofs.Common.{arith}
use Rattle.layout.proofs.Keep.{out}
use Rattle.sheet.proofs.Shown.{numbered_row}
use Rattle.sheet.proofs.sheet.Sheet.numbered.Goals as goal

pub returns-clause-row : goal.returns-clause-row
returns-clause-row c =
    let s = c.args.self.now in
    numbered_row c.field_row.result s.fields c.args.n _ (omega (arith, c.in_ok-checked_sub.ensures)) (omega arith) (out s.good).sound.good.fields c.field_row.ensures.row
