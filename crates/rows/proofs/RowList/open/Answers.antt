use Rattle.std.proofs.Common.{rules}
use Rattle.rows.proofs.Filled.{filled}
use Rattle.rows.proofs.RowList.open.Goals as goal

pub returns-clause-blank : goal.returns-clause-blank
returns-clause-blank g c = filled _ _ _ _ _ (λ x r s. search rules) c.fill_with.ensures.ran.1
