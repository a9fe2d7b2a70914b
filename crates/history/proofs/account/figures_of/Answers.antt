use Rattle.std.proofs.Common.{◌≡◌, ℕ, Ok, Err, Result, ap, arith}
use Rattle.std.specs.Result.{result_unwrap_or}
use Rattle.std.proofs.lemmas.Bool.Decides.{nat_tests}
use Rattle.std.proofs.lemmas.Grind.{common_steps}
use Rattle.grammar.specs.declared.error.Refusal.{Refusal}
use Rattle.grammar.specs.Figures.{text_figures}
use Rattle.grammar.specs.Refusals.{outcome}
use Rattle.book.specs.Plain.{text_of}
use Rattle.book.specs.Questions.{figure_of, alignment, alignment_of}
use Rattle.sheet.specs.Seen.{book_in}
use Rattle.history.proofs.account.figures_of.Goals as goal

-- an alignment, 0 where there is none
aligned : (a : ℕ) (r : Result ℕ Refusal) → outcome r ≡ alignment a → result_unwrap_or r 0 ≡ a
aligned a (Ok x) h = grind (arith, nat_tests)
aligned a (Err x) h = grind (arith, nat_tests)

pub returns-clause-answer : goal.returns-clause-answer
unfolding figure_of alignment_of
returns-clause-answer c =
    let e = ap book_in c.string_len.ensures.same in
    let f = ap book_in c.depths.ensures.same in
    let g = ap book_in c.alignment.ensures.same in
    let h = ap book_in c.alignment-2.ensures.same in
    let i = ap book_in c.is_fixed_sized.ensures.same in
    let figures = text_figures (text_of (book_in c.args.sheet.now) c.args.n) in
    grind (arith, common_steps, aligned figures.dbus c.alignment.result, aligned figures.gvariant c.alignment-2.result)
