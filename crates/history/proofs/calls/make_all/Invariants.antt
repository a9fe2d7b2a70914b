use Rattle.std.proofs.Common.{take}
use Rattle.history.specs.Calls.{calls_of}
use Rattle.history.specs.Ran.{Ran}
use Rattle.history.proofs.calls.make_all.Given as goal

abbrev pub invariant-loop-i : goal.invariant-loop-i
invariant-loop-i l = Ran (take l.i (calls_of l.calls)) l.initial.sheet l.sheet l.initial.answers l.answers
