use Rattle.std.proofs.Common.{◌∙◌}
use Rattle.sheet.specs.Seen.{book_in}
use Rattle.forms.proofs.Texts.{row_at, no_row, row_in, row_long}
use Rattle.forms.proofs.Known.{long_in, no_length}
use Rattle.forms.proofs.bytes.length_of.Goals as goal

pub returns-in_err-row-clause-long : goal.returns-in_err-row-clause-long
returns-in_err-row-clause-long c =
    let s = c.args.sheet.now in
    c.from_residual-in_err-row.ensures ∙ no_length (book_in s) c.args.n (no_row s c.in_ok-place_of.ensures c.in_err-row.ensures.row)

pub returns-clause-long : goal.returns-clause-long
returns-clause-long c =
    let s = c.args.sheet.now in
    let r = row_at s c.in_ok-place_of.ensures c.in_ok-row.ensures.row in
    long_in (book_in s) c.args.n c.in_ok-row.row.figures.length (row_in s r) (row_long s r)
