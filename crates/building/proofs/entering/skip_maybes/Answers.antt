use Rattle.std.proofs.Common.{◌∙◌, arith}
use Rattle.reader.proofs.Joins.{ate_in, stayed_in}
use Rattle.building.proofs.Views.{behind_more, skipped}
use Rattle.building.proofs.entering.skip_maybes.Goals as goal

pub loop-preserved : goal.loop-preserved
loop-preserved c =
    let i = c.loop.invariant in
    let a = ate_in i.0 c.loop-test.ensures.eaten in
    (c.eat.ensures.text ∙ i.0, omega (arith, a.past, i.1), λ t w e. behind_more _ _ _ _ _ t w (i.2 t w e) a.here (omega (arith, a.past, i.1)))

pub returns-clause-skips : goal.returns-clause-skips
returns-clause-skips c =
    let i = c.loop.invariant in
    let a = stayed_in i.0 c.loop-test.ensures.eaten in
    λ t w e. skipped _ _ _ _ _ t w a.same (omega (arith, a.same)) (i.2 t w e) a.other
