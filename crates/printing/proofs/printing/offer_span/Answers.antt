use Rattle.std.proofs.Common.{ap, arith}
use Rattle.std.proofs.lemmas.Grind.{common_steps}
use Rattle.book.specs.Plain.{text_of}
use Rattle.writers.proofs.Accepting.{going_on, going_stop, going_end}
use Rattle.sheet.specs.Seen.{book_in}
use Rattle.printing.proofs.Offering.{span_long, span_byte}
use Rattle.printing.proofs.printing.offer_span.Goals as goal

pub unwrap-b-requires : goal.unwrap-b-requires
unwrap-b-requires g c =
    let e = ap book_in c.loop-taken.invariant.same in
    grind (arith, span_byte (text_of (book_in c.args.sheet.now) c.args.n) c.args.span c.requires c.loop-taken.taken)

pub returns-then-not-offer-clause-wrote : goal.returns-then-not-offer-clause-wrote
returns-then-not-offer-clause-wrote g c =
    let e = ap book_in c.loop-taken.invariant.same in
    let byte = span_byte (text_of (book_in c.args.sheet.now) c.args.n) c.args.span c.requires c.loop-taken.taken (omega arith) in
    going_stop _ _ _ _ c.loop-taken.invariant.going c.unwrap-b.result _ byte.0 (grind (arith, byte.1)) c.if-not-offer.ensures.answer c.if-not-offer.ensures.took

pub loop-taken-preserved : goal.loop-taken-preserved
loop-taken-preserved g c =
    let e = ap book_in c.loop-taken.invariant.same in
    let byte = span_byte (text_of (book_in c.args.sheet.now) c.args.n) c.args.span c.requires c.loop-taken.taken (omega arith) in
    record {
      same = cc;
      going = going_on _ _ _ _ c.loop-taken.invariant.going c.unwrap-b.result _ byte.0 (grind (arith, byte.1)) c.if-not-offer.ensures.answer c.if-not-offer.ensures.took;
    }

pub returns-clause-wrote : goal.returns-clause-wrote
returns-clause-wrote g c =
    let long = span_long (text_of (book_in c.args.sheet.now) c.args.n) c.args.span c.requires in
    grind (arith, common_steps, going_end _ _ _ c.loop-taken.taken c.loop-taken.invariant.going)
