use Rattle.std.proofs.Common.{refl, arith}
use Rattle.sheet.proofs.Same.{same_sheet}
use Rattle.layout.proofs.Ask.{in_use}
use Rattle.sheet.proofs.sheet.Sheet.field_row.Goals as goal

pub returns : goal.returns
returns c = let s = c.args.self.now in record { same = same_sheet _ _ refl c.row.ensures.same; row = in_use c.row.result s.fields c.args.i (omega arith) c.row.ensures.row }
