use Rattle.std.proofs.Common.{◌∙◌}
use Rattle.layout.specs.Format.{format_of}
use Rattle.sheet.proofs.Shown.{exit_unknown, alignment_known, alignment_unknown, alignment_or}
use Rattle.sheet.proofs.sheet.Sheet.alignment.Goals as goal

pub returns-in_err-figures-clause-answer : goal.returns-in_err-figures-clause-answer
returns-in_err-figures-clause-answer c =
    let u = c.in_err-figures.ensures.figures in
    exit_unknown _ c.from_residual.ensures.1 u ∙ alignment_unknown c.args.self.now c.args.n u.unknown (format_of c.args.format)

pub returns-clause-answer : goal.returns-clause-answer
returns-clause-answer c =
    rw c.ok_or.ensures.value (alignment_or _ _ c.alignment_in.ensures ∙ alignment_known c.args.self.now c.args.n (format_of c.args.format) _ c.in_ok-figures.ensures.figures)
