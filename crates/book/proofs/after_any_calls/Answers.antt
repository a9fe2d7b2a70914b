use Rattle.book.proofs.Histories.{facts}
use Rattle.book.proofs.after_any_calls.Goals as goal

pub returns : goal.returns
returns c = facts
