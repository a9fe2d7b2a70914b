use Rattle.std.proofs.Common.{rules, ◌≡◌, ◌-◌, arith, length}
use Rattle.book.specs.Plain.{text_of}
use Rattle.sheet.specs.Seen.{book_in}
use Rattle.intake.proofs.Forming.{whole, front}
use Rattle.intake.proofs.filing.form_of.Goals as goal

pub unwrap-count-requires : goal.unwrap-count-requires
unwrap-count-requires c =
    let w = text_of (book_in c.args.sheet.now) c.args.n in
    let e = whole (book_in c.args.sheet.now) c.args.n w _ c.requires.known (omega arith) c.to_string.result c.to_string.ensures.answer in
    search rules

pub slice_bounds-result-end : goal.slice_bounds-result-end
slice_bounds-result-end c =
    let w = text_of (book_in c.args.sheet.now) c.args.n in
    let e = whole (book_in c.args.sheet.now) c.args.n w _ c.requires.known (omega arith) c.to_string.result c.to_string.ensures.answer in
    let z : c.unwrap-count.result ≡ length w = cc in
    omega arith

pub returns-clause-form : goal.returns-clause-form
returns-clause-form c =
    let w = text_of (book_in c.args.sheet.now) c.args.n in
    let e = whole (book_in c.args.sheet.now) c.args.n w _ c.requires.known (omega arith) c.to_string.result c.to_string.ensures.answer in
    let l : c.unwrap-count.result ≡ length w = cc in
    let z : c.unwrap-count.result - 0 ≡ length w = omega arith in
    rw z (front w _ _ c.to_string.result e c.to_string.ensures.after)
