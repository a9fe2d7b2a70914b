use Rattle.std.proofs.Common.{arith}
use Rattle.sheet.proofs.Same.{same_sheet}
use Rattle.sheet.proofs.sheet.Sheet.counts.Goals as goal

pub returns : goal.returns
returns c = record { same = same_sheet _ _ c.len.ensures.same c.len-2.ensures.same; types = omega arith; fields = omega arith }
