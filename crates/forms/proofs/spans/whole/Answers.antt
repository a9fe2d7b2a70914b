use Rattle.std.proofs.Common.{arith}
use Rattle.book.specs.Plain.{text_of}
use Rattle.sheet.specs.Seen.{book_in}
use Rattle.forms.specs.Spans.{Covers}
use Rattle.forms.proofs.Known.{refused_as}
use Rattle.forms.proofs.Bared.{whole_places}
use Rattle.forms.proofs.spans.whole.Goals as goal

pub returns-in_err-length-clause-covers : goal.returns-in_err-length-clause-covers
returns-in_err-length-clause-covers c =
    let b = book_in c.args.sheet.now in
    refused_as c.args.sheet.now c.args.n (Covers b c.args.n (text_of b c.args.n)) c.from_residual.result c.in_err-length.field-0.0 c.from_residual.ensures c.in_err-length.ensures.answer

pub returns-clause-covers : goal.returns-clause-covers
returns-clause-covers c = rw c.from.ensures (whole_places c.args.sheet.now c.args.n c.in_ok-length.length c.in_ok-length.ensures.answer (omega arith))
