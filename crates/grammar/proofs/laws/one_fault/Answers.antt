use Rattle.grammar.proofs.ScanExact.{one_fault}
use Rattle.grammar.proofs.laws.one_fault.Goals as goal

pub returns : goal.returns
returns c = one_fault
