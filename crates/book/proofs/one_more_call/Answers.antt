use Rattle.book.proofs.Histories.{one_more}
use Rattle.book.proofs.one_more_call.Goals as goal

pub returns : goal.returns
returns c = one_more
