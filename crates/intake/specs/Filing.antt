-- What is said of a line that is filed.
use Rattle.std.specs.Prelude.{◌≡◌, List}
use Rattle.grammar.specs.Shape.{Text}
use Rattle.grammar.specs.Figures.{text_figures}
use Rattle.grammar.specs.Refusals.{Outcome, accepted, refused}
use Rattle.book.specs.Plain.{Answer, text_of}
use Rattle.intake.specs.declared.filed.Filed.{Filed}

-- the number in an answer
abbrev pub number_in : Outcome Filed → Answer
number_in (accepted x) = accepted x.number
number_in (refused e vs) = refused e vs

-- The figures and the form are those of the number's text.
pub record Shows (b : List Text) (x : Filed) : Type 0 where
  pub figures : x.figures ≡ text_figures (text_of b x.number)
  pub form : x.form.now ≡ text_of b x.number

abbrev pub Told : List Text → Outcome Filed → Type 0
Told b (accepted x) = Shows b x
Told b (refused e vs) = Unit {0}
