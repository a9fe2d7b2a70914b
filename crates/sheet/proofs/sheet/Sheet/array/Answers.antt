use Rattle.std.proofs.Common.{[], ◌<◌, ◌≤◌, refl, subst}
use Rattle.grammar.specs.declared.figures.Figures.{Figures}
use Rattle.book.specs.Nodes.{array, array_figures}
use Rattle.sheet.specs.Seen.{nodes_on}
use Rattle.sheet.proofs.Makes.{known_bounded, fit_array, made_as, made_still, part_refused, part_long, part_good}
use Rattle.sheet.proofs.Shown.{exit_outcome}
use Rattle.sheet.proofs.Texts.{called_array}
use Rattle.sheet.proofs.sheet.Sheet.array.Goals as goal

pub returns-in_err-part : goal.returns-in_err-part
returns-in_err-part c =
    let s = c.args.self.now in
    let m = made_still s c.part.new.self _ _ _ c.part.ensures.same (part_refused s.types.cap (nodes_on s) c.args.n (array c.args.n) _ c.in_err-part.ensures.part) in
    rw (exit_outcome _ _ c.from_residual.ensures.1) (record { called = called_array s c.part.new.self _ c.args.n m; made = m })

pub returns-in_err-figures : goal.returns-in_err-figures
returns-in_err-figures c =
    let s = c.args.self.now in
    let k = c.in_ok-part.ensures.part in
    let u = c.in_err-figures.ensures in
    let m =
    made_still s c.part.new.self 7 [] _ c.part.ensures.same
    (part_long s.types.cap (nodes_on s) c.args.n (array c.args.n) _ k (subst (λ (f : Figures). 65535 < (array_figures f).length) k.figured.figures u.long)) in
    rw (exit_outcome _ _ c.from_residual-in_err-figures.ensures.1, u.refusal) (record { called = called_array s c.part.new.self _ c.args.n m; made = m })

pub enter-requires : goal.enter-requires
enter-requires c =
    let s = c.args.self.now in
    record { fit = rw c.part.ensures.same (fit_array s.types s.fields c.args.n _ _ c.in_ok-part.ensures.part (c.in_ok-figures.ensures (known_bounded _ _ _ c.in_ok-part.ensures.part.figured))); plain = refl }

pub returns : goal.returns
returns c =
    let s = c.args.self.now in
    let t = c.enter.new.self in
    let k = c.in_ok-part.ensures.part in
    let w = (c.in_ok-figures.ensures (known_bounded _ _ _ c.in_ok-part.ensures.part.figured)) in
    let m =
    made_as s c.part.new.self t.types t.fields _ (array c.args.n) _ c.part.ensures.same
    (part_good s.types.cap (nodes_on s) c.args.n (array c.args.n) _ k (subst (λ (f : Figures). (array_figures f).length ≤ 65535) k.figured.figures w.short)) c.enter.ensures in
    record { called = called_array s t _ c.args.n m; made = m }
