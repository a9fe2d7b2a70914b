use Rattle.book.proofs.Agree.{agrees}
use Rattle.book.proofs.each_call_agrees.Goals as goal

pub returns : goal.returns
returns c = agrees
