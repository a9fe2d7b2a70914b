use Rattle.std.proofs.Common.{arith}
use Rattle.book.specs.Plain.{text_of}
use Rattle.sheet.specs.Seen.{book_in}
use Rattle.forms.specs.Forms.{bare_text}
use Rattle.forms.specs.Spans.{Covers}
use Rattle.forms.proofs.Known.{refused_as}
use Rattle.forms.proofs.Bared.{bare_places, pair_two, inner_places}
use Rattle.forms.proofs.spans.bare.Goals as goal

pub returns-in_err-string_len-clause-covers : goal.returns-in_err-string_len-clause-covers
returns-in_err-string_len-clause-covers c =
    let b = book_in c.args.sheet.now in
    refused_as c.args.sheet.now c.args.n (Covers b c.args.n (bare_text (text_of b c.args.n))) c.from_residual.result c.in_err-string_len.field-0.0 c.from_residual.ensures c.in_err-string_len.ensures.answer

pub overflow_sub-result : goal.overflow_sub-result
overflow_sub-result c =
    omega (arith, pair_two c.args.sheet.now c.args.n c.in_ok-string_len.field-0 c.in_ok-string_len.ensures.answer (omega arith) c.string_len.ensures.same c.if-is_structure.ensures.paired)

pub returns-then-is_structure-clause-covers : goal.returns-then-is_structure-clause-covers
returns-then-is_structure-clause-covers c =
    rw c.from-count.ensures (inner_places c.args.sheet.now c.args.n c.in_ok-string_len.field-0 c.in_ok-string_len.ensures.answer (omega arith) c.string_len.ensures.same c.if-is_structure.ensures.paired)

pub returns-else-is_structure-clause-covers : goal.returns-else-is_structure-clause-covers
returns-else-is_structure-clause-covers c =
    rw c.from-count.ensures (bare_places c.args.sheet.now c.args.n c.in_ok-string_len.field-0 c.in_ok-string_len.ensures.answer (omega arith) c.string_len.ensures.same c.if-is_structure.ensures.paired)
