use Rattle.std.proofs.Common.{length, sym, ap, ◌∙◌, arith}
use Rattle.std.proofs.lemmas.Option.{slice_get_past}
use Rattle.grammar.specs.Refusals.{accepted}
use Rattle.book.specs.Plain.{text_of}
use Rattle.sheet.specs.Seen.{book_in}
use Rattle.forms.specs.Forms.{byte_of}
use Rattle.forms.proofs.Texts.{byte_as, long_as}
use Rattle.forms.proofs.Known.{known_answer}
use Rattle.forms.proofs.bytes.byte_at.Goals as goal

pub returns-in-Some-clause-answer : goal.returns-in-Some-clause-answer
unfolding byte_of
returns-in-Some-clause-answer c =
    let s = c.args.sheet.now in
    ap accepted (sym (slice_get_past (text_of (book_in s) c.args.n) c.args.p (omega (arith, c.in-Some.ensures.past, long_as c.is_known.ensures.same c.args.n))))
    ∙ known_answer (length (book_in s)) c.args.n _ (sym c.is_known.ensures.known ∙ c.if-not-is_known.false)

pub returns-in-None-clause-answer : goal.returns-in-None-clause-answer
unfolding byte_of
returns-in-None-clause-answer c =
    let s = c.args.sheet.now in
    ap accepted (byte_as s c.past.new.sheet (c.past.ensures.same ∙ c.is_known.ensures.same) c.args.n c.args.p c.byte.result c.byte.ensures.byte)
    ∙ known_answer (length (book_in s)) c.args.n _ (sym c.is_known.ensures.known ∙ c.if-not-is_known.false)
