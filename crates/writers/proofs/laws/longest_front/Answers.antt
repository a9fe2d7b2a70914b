use Rattle.writers.proofs.Fronts.{longest}
use Rattle.writers.proofs.laws.longest_front.Goals as goal

pub returns : goal.returns
returns c = longest
