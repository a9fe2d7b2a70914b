use Rattle.std.proofs.Common.{Err, ap, ◌∙◌}
use Rattle.std.proofs.lemmas.Result.{err_from_is_err_and}
use Rattle.building.proofs.InRow.{wrap_on, wrap_stopped}
use Rattle.building.proofs.Shifts.{goes_on}
use Rattle.building.proofs.entering.wrap.Goals as goal

pub loop-i-preserved : goal.loop-i-preserved
loop-i-preserved g c =
    let i = c.loop-i.invariant in
    let m = c.in_ok-n.ensures in
    (goes_on i.0 m.grew, wrap_on _ _ _ _ _ _ _ _ c.loop-i-test.true i.1 _ (rw i.0.limits at m.says))

pub returns-in_err-n-clause-wraps : goal.returns-in_err-n-clause-wraps
returns-in_err-n-clause-wraps g c =
    let i = c.loop-i.invariant in
    let p = err_from_is_err_and c.from_residual.result c.from_residual.ensures.1 in
    wrap_stopped _ _ _ _ _ _ _ _ c.loop-i-test.true i.1 _ _ _ (rw i.0.limits at c.in_err-n.ensures.says) (p.1 ∙ ap Err p.2)
