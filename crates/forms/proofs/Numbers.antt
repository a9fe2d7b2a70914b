-- The numbers of a sheet and their texts.
use Rattle.std.proofs.Common.{◌≡◌, ℕ, ◌+◌, ◌<◌, true, eqb, length, sym, ap, ◌∙◌, arith, lt-ltb, eqb-true}
use Rattle.grammar.specs.Refusals.{accepted}
use Rattle.book.specs.Plain.{same_text, text_of}
use Rattle.book.specs.Nodes.{texts_of}
use Rattle.book.specs.Questions.{equal_of, equal_answer}
use Rattle.book.proofs.NodeShapes.{same_texts}
use Rattle.book.proofs.Questions.{texts_count, equal_agrees}
use Rattle.sheet.specs.declared.sheet.Sheet.{Sheet}
use Rattle.layout.specs.Kept.{nodes_of}
use Rattle.sheet.proofs.Texts.{good_book}
use Rattle.sheet.specs.Seen.{book_in}

-- Two known numbers with the same text are equal.
pub one_number : (s : Sheet) (m n : ℕ) → m < 15 + length (book_in s) → n < 15 + length (book_in s) → text_of (book_in s) m ≡ text_of (book_in s) n → m ≡ n
unfolding equal_of
one_number s m n p q e =
    let ns = nodes_of s.types s.fields in
    let k = texts_count ns (good_book s) in
    let p' : m < 15 + length ns = omega (arith, p, k) in
    let q' : n < 15 + length ns = omega (arith, q, k) in
    let a : equal_of (texts_of ns) m n ≡ accepted (same_text (text_of (texts_of ns) m) (text_of (texts_of ns) n)) = rw (lt-ltb m (15 + length (texts_of ns)) p, lt-ltb n (15 + length (texts_of ns)) q) in
    let b : equal_answer ns m n ≡ accepted (eqb m n) = rw (lt-ltb m (15 + length ns) p', lt-ltb n (15 + length ns) q') in
    let same : same_text (text_of (texts_of ns) m) (text_of (texts_of ns) n) ≡ true = rw e (same_texts.self (text_of (texts_of ns) n)) in
    let t : accepted (eqb m n) ≡ accepted true = sym b ∙ sym (equal_agrees ns (good_book s) m n) ∙ a ∙ ap accepted same in
    let r : eqb m n ≡ true = cc in
    eqb-true m n r
