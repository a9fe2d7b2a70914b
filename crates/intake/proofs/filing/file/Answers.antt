use Rattle.std.proofs.Common.{◌∙◌}
use Rattle.intake.proofs.Forming.{known_after, figures_are, never_unknown, text_long}
use Rattle.intake.proofs.filing.file.Goals as goal

pub returns-in_err-figures : goal.returns-in_err-figures
returns-in_err-figures c =
    let s = c.args.sheet.now in
    let k = known_after s c.from_bytes.new.self _ _ c.in_ok-number.ensures in
    absurd (never_unknown c.from_bytes.new.self _ k _ _ c.in_err-figures.ensures.answer)

pub form_of-form-requires : goal.form_of-form-requires
form_of-form-requires c =
    let s = c.args.sheet.now in
    let s₁ = c.from_bytes.new.self in
    let n = c.in_ok-number.number in
    let k = known_after s s₁ n _ c.in_ok-number.ensures in
    let f = figures_are s₁ n k c.in_ok-figures.figures c.in_ok-figures.ensures.answer in
    let e = c.figures_of.ensures.same in
    let l = text_long s₁ n k in
    record { known = cc; size = cc }

pub returns : goal.returns
returns c =
    let s = c.args.sheet.now in
    let s₁ = c.from_bytes.new.self in
    let n = c.in_ok-number.number in
    let k = known_after s s₁ n _ c.in_ok-number.ensures in
    let f = figures_are s₁ n k c.in_ok-figures.figures c.in_ok-figures.ensures.answer in
    let e = c.form_of-form.ensures.same ∙ c.figures_of.ensures.same in
    let h = c.form_of-form.ensures.form in
    record { called = rw e c.in_ok-number.ensures; told = record { figures = cc; form = cc } }
