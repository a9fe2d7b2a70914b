use Rattle.std.proofs.Common.{refl, arith}
use Rattle.sheet.proofs.Same.{same_sheet}
use Rattle.layout.proofs.Ask.{in_use}
use Rattle.sheet.proofs.sheet.Sheet.type_row.Goals as goal

pub returns : goal.returns
returns c = let s = c.args.self.now in record { same = same_sheet _ _ c.row.ensures.same refl; row = in_use c.row.result s.types c.args.i (omega arith) c.row.ensures.row }
