use Rattle.textlines.proofs.Over.{over_none, over_first}
use Rattle.intake.proofs.replies.reply_to_lines.Goals as goal

pub loop-line-preserved : goal.loop-line-preserved
loop-line-preserved g c = (c.reply.array_long, λ last rest. c.loop-line.invariant.1 last (over_first _ _ _ _ _ _ _ c.in-Some.ensures.steps c.in_ok-reply.ensures rest))

pub returns : goal.returns
returns g c = c.loop-line.invariant.1 c.loop-line.sheet (over_none _ _ _ c.in-None.ensures.steps.0)
