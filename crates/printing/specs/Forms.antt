-- What is answered about the forms in which a signature is written.
use Rattle.std.specs.Prelude.{ℕ, Bool, cond, ◌||◌, List, [], ◌++◌, length, drop, ◌==◌, nat_lt}
use Rattle.grammar.specs.Shape.{Text}
use Rattle.grammar.specs.Refusals.{Outcome, accepted, refused}
use Rattle.writers.specs.Rule.{accepted as accepted_by}
use Rattle.writers.specs.State.{State}
use Rattle.forms.specs.Forms.{bare_text}
use Rattle.printing.specs.declared.printing.Printed.{Printed}
use Rattle.book.specs.Plain.{same_text, text_of}
use Rattle.book.specs.Questions.{if_known}

-- how many of the bytes of a text a writer in such a state takes in turn, and whether those are all
abbrev pub taken_of : State → Text → Printed
taken_of s w = record { taken = accepted_by s.rule s.taken w; all = (accepted_by s.rule s.taken w == length w) }

-- what offering the form w of n to such a writer answers
unfoldable pub written_of : List Text → ℕ → Text → State → Outcome Printed
written_of b n w s = if_known (length b) n (accepted (taken_of s w))

-- how many bytes were taken: none after a refusal
abbrev pub count_in : Outcome Printed → ℕ
count_in (accepted p) = p.taken
count_in (refused e vs) = 0

-- P, where the answer is a refusal
abbrev pub OnRefusal : {A : Type 0} → Outcome A → Type 0 → Type 0
OnRefusal (accepted x) P = Unit {0}
OnRefusal (refused e vs) P = P

-- what writing w to a buffer with so many places answers, and what the buffer holds after
abbrev pub filling : Text → ℕ → Outcome ℕ
filling w space = cond (nat_lt space (length w)) (refused 9 []) (accepted (length w))

unfoldable pub into_of : List Text → ℕ → Text → ℕ → Outcome ℕ
into_of b n w space = if_known (length b) n (filling w space)

abbrev pub into_after : Outcome ℕ → Text → List ℕ → List ℕ
into_after (accepted k) w old = w ++ drop (length w) old
into_after (refused e vs) w old = old

-- whether a text is the printed or the bare form of n
unfoldable pub eq_text_of : List Text → ℕ → Text → Outcome Bool
eq_text_of b n w = if_known (length b) n (accepted (same_text w (text_of b n) || same_text w (bare_text (text_of b n))))
