-- What is said of a number: how much of its printed form a writer took, and its figures.
use Rattle.std.specs.Prelude.{◌≡◌, ℕ, List, length, take}
use Rattle.grammar.specs.declared.figures.Figures.{Figures}
use Rattle.grammar.specs.Shape.{Text}
use Rattle.grammar.specs.Figures.{text_figures}
use Rattle.grammar.specs.Refusals.{Outcome, accepted, refused}
use Rattle.book.specs.Plain.{text_of}
use Rattle.book.specs.Questions.{if_known, figure_of}
use Rattle.writers.specs.State.{State, Took}
use Rattle.printing.specs.Forms.{taken_of}
use Rattle.history.specs.declared.account.Account.{Account}

-- all figures, worked out from the printed bytes
abbrev pub all_figures : List Text → ℕ → Outcome Figures
all_figures = figure_of (λ f. f)

-- the account of n, whose printed form is offered to a writer in such a state
unfoldable pub account_of : List Text → ℕ → State → Outcome Account
account_of b n s = if_known (length b) n (accepted (record { printed = taken_of s (text_of b n); figures = text_figures (text_of b n) }))

-- how many bytes were taken: none after a refusal
abbrev pub taken_in : Outcome Account → ℕ
taken_in (accepted a) = a.printed.taken
taken_in (refused e vs) = 0

-- The account a of n, and what offering its printed form did to the writer.
pub record Accounted (b : List Text) (n : ℕ) (a : Outcome Account) (old new : State) : Type 0 where
  pub answer : a ≡ account_of b n old
  pub took : Took old new (take (taken_in a) (text_of b n))
