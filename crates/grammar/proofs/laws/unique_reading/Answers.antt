use Rattle.grammar.proofs.ReadBack.{printed_inj, printed_all_inj}
use Rattle.grammar.proofs.laws.unique_reading.Goals as goal

pub returns : goal.returns
returns c = (printed_inj, printed_all_inj)
