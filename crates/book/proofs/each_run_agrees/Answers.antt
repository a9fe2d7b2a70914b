use Rattle.book.proofs.Calls.{runs_agree}
use Rattle.book.proofs.each_run_agrees.Goals as goal

pub returns : goal.returns
returns c = runs_agree
