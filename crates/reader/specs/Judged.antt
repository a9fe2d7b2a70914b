-- What `validate` answers to a text.
use Rattle.std.specs.Prelude.{◌≡◌, ℕ, ◌<◌, ◌≤◌, ◌↔◌, [], ◌∷◌, length}
use Rattle.grammar.specs.declared.error.Fault.{Fault}
use Rattle.grammar.specs.Shape.{Text}
use Rattle.grammar.specs.Valid.{longest_text, Valid, FaultOf}
use Rattle.reader.specs.Parsing.{Counted}
use Rattle.grammar.specs.Refusals.{Outcome, accepted, refused, letter_of}

abbrev pub IsAccepted : {X : Type 0} → Outcome X → Type 0
IsAccepted (accepted x) = Unit {0}
IsAccepted (refused n vs) = ⊥

-- Accepted exactly if valid and not too long; refused with 1 exactly if too long, and with 2, its cause and its place
-- exactly for the fault of a text that is not too long. One of these holds of each text.
pub record Judged {X : Type 0} (w : Text) (answer : Outcome X) : Type 0 where
  pub valid : IsAccepted answer ↔ ((length w ≤ longest_text) × Valid w)
  pub too_long : (answer ≡ refused 1 []) ↔ (longest_text < length w)
  pub faulty : (f : Fault) → (answer ≡ refused 2 (letter_of f.cause ∷ f.place ∷ [])) ↔ ((length w ≤ longest_text) × FaultOf w f)

-- The number accepted is that of the types in the text.
abbrev pub CountedIn : Text → Outcome ℕ → Type 0
CountedIn w (accepted n) = Counted w n
CountedIn w (refused e vs) = Unit {0}
