use Rattle.std.proofs.Common.{◌∙◌}
use Rattle.sheet.proofs.Shown.{figure_known, figure_unknown, exit_unknown}
use Rattle.sheet.proofs.sheet.Sheet.string_len.Goals as goal

pub returns-in_err-figures-clause-answer : goal.returns-in_err-figures-clause-answer
returns-in_err-figures-clause-answer c =
    let u = c.in_err-figures.ensures.figures in
    exit_unknown _ c.from_residual.ensures.1 u ∙ figure_unknown c.args.self.now c.args.n u.unknown (λ f. f.length)

pub returns-clause-answer : goal.returns-clause-answer
returns-clause-answer c = figure_known c.args.self.now c.args.n (λ f. f.length) _ c.in_ok-figures.ensures.figures
