use Rattle.std.proofs.Common.{arith}
use Rattle.std.proofs.lemmas.List.{length-map}
use Rattle.std.proofs.lemmas.Grind.{common_steps}
use Rattle.history.proofs.Running.{start, next_call, so_many, told, made}
use Rattle.history.specs.Calls.{call_of, calls_of}
use Rattle.history.proofs.calls.make_all.Goals.{then-i-answers, else-i-answers}
use Rattle.history.proofs.calls.make_all.Goals as goal

pub loop-i-init : goal.loop-i-init
loop-i-init c = start c.args.sheet.now c.args.answers.now

pub loop-i-preserved : goal.loop-i-preserved
loop-i-preserved c =
    let m = c.loop-i.invariant in
    let l = so_many _ _ (calls_of c.args.calls.now) c.loop-i.i (grind (arith, length-map c.args.calls.now call_of)) in
    let a = told _ _ _ c.if-i-answers.answers _ c.make-answer.result m.answers l c.if-i-answers.auto.answers (λ d h. grind (arith, common_steps, c.if-i-answers.branch)) (λ j d h. grind (arith, common_steps, c.if-i-answers.branch)) in
    let k = made _ _ c.args.sheet.now c.loop-i.sheet c.make-answer.new.sheet _ _ _ _ m c.make-answer.ensures a in
    rw (next_call c.args.calls.now c.loop-i.i _ c.loop-i-test.true) at k
