use Rattle.std.proofs.Common.{◌≡◌, length, Ok}
use Rattle.sheet.specs.declared.sheet.Sheet.{Sheet}
use Rattle.textlines.specs.Lines.{OverLines}
use Rattle.intake.specs.Replies.{Replied}
use Rattle.intake.proofs.replies.reply_to_lines.Given as goal

abbrev pub invariant-loop-line : goal.invariant-loop-line
invariant-loop-line g l =
    (length l.form ≡ 65535)
    × ((last : Sheet) → OverLines (Replied (λ p x p'. goal.F-post g l.fn.after_form p x (Ok tt) p')) l.line-iterator.rest.now l.sheet last
    → OverLines (Replied (λ p x p'. goal.F-post g l.fn.after_form p x (Ok tt) p')) l.fn.text l.fn.sheet last)
