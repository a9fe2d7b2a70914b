use Rattle.std.proofs.Common.{◌∙◌}
use Rattle.sheet.proofs.Shown.{exit_unknown, both_known, first_unknown, second_unknown}
use Rattle.sheet.proofs.sheet.Sheet.eq.Goals as goal

pub returns-in_err-figures-clause-answer : goal.returns-in_err-figures-clause-answer
returns-in_err-figures-clause-answer c =
    let u = c.in_err-figures.ensures.figures in
    exit_unknown _ c.from_residual.ensures.1 u ∙ first_unknown c.args.self.now c.args.a c.args.b u.unknown

pub returns-in_err-figures-2-clause-answer : goal.returns-in_err-figures-2-clause-answer
returns-in_err-figures-2-clause-answer c =
    let s = c.args.self.now in
    let u = rw c.figures.ensures.same at c.in_err-figures-2.ensures.figures in
    exit_unknown _ c.from_residual-in_err-figures-2.ensures.1 u ∙ second_unknown s c.args.a c.args.b _ c.in_ok-figures.ensures.figures u.unknown

pub returns-clause-answer : goal.returns-clause-answer
returns-clause-answer c =
    let s = c.args.self.now in
    both_known s c.args.a c.args.b _ _ c.in_ok-figures.ensures.figures (rw c.figures.ensures.same at c.in_ok-figures-2.ensures.figures)
