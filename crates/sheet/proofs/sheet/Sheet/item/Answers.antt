use Rattle.std.proofs.Common.{◌≡◌, [], ◌∷◌, sym, subst, ◌∙◌, arith}
use Rattle.layout.specs.Tails.{tail_at}
use Rattle.sheet.specs.Seen.{tails_on}
use Rattle.sheet.specs.declared.sheet.Sheet.{Sheet}
use Rattle.sheet.proofs.Shown.{past, next_row}
use Rattle.sheet.proofs.sheet.Sheet.item.Goals as goal

pub returns-in_err-next-clause-item : goal.returns-in_err-next-clause-item
returns-in_err-next-clause-item c =
    let T = tails_on c.args.self.now in
    let v = c.loop-k.invariant in
    let z = subst (λ (u : Sheet). tail_at (tails_on u) c.loop-k.next ≡ []) v.same c.in_err-next.ensures.row in
    c.from_residual.ensures ∙ sym (past T (tail_at T c.args.first) c.loop-k.next c.loop-k._k c.args.i v.walked z (omega arith))

pub loop-k-preserved : goal.loop-k-preserved
loop-k-preserved c =
    let T = tails_on c.args.self.now in
    let v = c.loop-k.invariant in
    let y = c.in_ok-next.field-0 in
    let z = subst (λ (u : Sheet). tail_at (tails_on u) c.loop-k.next ≡ y.field ∷ tail_at (tails_on u) y.next) v.same c.in_ok-next.ensures.row in
    record { same = c.numbered.ensures.same ∙ v.same; walked = next_row T (tail_at T c.args.first) c.loop-k.next c.loop-k._k y.next y.field v.walked z }
