use Rattle.grammar.proofs.ScanExact.{exact}
use Rattle.grammar.proofs.laws.scan_is_exact.Goals as goal

pub returns : goal.returns
returns c = exact
