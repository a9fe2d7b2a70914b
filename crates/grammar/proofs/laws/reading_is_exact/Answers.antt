use Rattle.grammar.proofs.ReadExact.{exact}
use Rattle.grammar.proofs.laws.reading_is_exact.Goals as goal

pub returns : goal.returns
returns c = exact
