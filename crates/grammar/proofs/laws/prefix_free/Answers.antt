use Rattle.grammar.proofs.Prefix.{no_proper_start}
use Rattle.grammar.proofs.laws.prefix_free.Goals as goal

pub returns : goal.returns
returns c = no_proper_start
