use Rattle.std.proofs.Common.{length, sym, ap, ◌∙◌, arith}
use Rattle.book.specs.Plain.{text_of}
use Rattle.sheet.specs.Seen.{book_in}
use Rattle.forms.proofs.Texts.{row_at, no_row, no_text, first_short}
use Rattle.forms.proofs.Bared.{bare_short, kind_structure, row_paired}
use Rattle.forms.proofs.spans.is_structure.Goals as goal

pub returns-in_default-clause-paired : goal.returns-in_default-clause-paired
returns-in_default-clause-paired c = let b = book_in c.args.sheet.now in bare_short (text_of b c.args.n) (first_short b c.args.n (omega (arith, c.in_default.ensures)))

pub returns-in-None-clause-paired : goal.returns-in-None-clause-paired
returns-in-None-clause-paired c =
    let s = c.args.sheet.now in
    bare_short (text_of (book_in s) c.args.n) (omega (arith, ap length (no_text (book_in s) c.args.n (no_row s c.in-Some.ensures c.in-None.ensures.row))))

pub returns-in-Some-type_row-clause-paired : goal.returns-in-Some-type_row-clause-paired
returns-in-Some-type_row-clause-paired c =
    row_paired c.args.sheet.now (row_at c.args.sheet.now c.in-Some.ensures c.in-Some-type_row.ensures.row) c.eq.result (kind_structure c.in-Some-type_row.row.kind ∙ sym c.eq.ensures)
