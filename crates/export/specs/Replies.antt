-- What `signature_validate` replies to a text.
use Rattle.std.specs.Prelude.{◌≡◌, ℕ, ◌<◌, ◌≤◌, ◌↔◌, List, [], ◌∷◌, length, Ok, Err, Result}
use Rattle.grammar.specs.declared.error.Fault.{Fault}
use Rattle.grammar.specs.declared.error.Refusal.{Refusal}
use Rattle.grammar.specs.declared.error.Refusal.TheVariants.{TextTooLong, Invalid}
use Rattle.grammar.specs.Shape.{Text}
use Rattle.grammar.specs.Valid.{longest_text, Valid, FaultOf}
use Rattle.grammar.specs.Refusals.{number_of, values_of}
use Rattle.export.specs.declared.reply.Reply.{Reply}

-- the first of two values and the second, or 0 where there are no two
abbrev pub cause_in : List ℕ → ℕ
cause_in [] = 0
cause_in (v ∷ []) = 0
cause_in (c ∷ p ∷ vs) = c

abbrev pub place_in : List ℕ → ℕ
place_in [] = 0
place_in (v ∷ []) = 0
place_in (c ∷ p ∷ vs) = p

abbrev pub accepting : Reply
accepting = record { refusal = 0; cause = 0; place = 0 }

-- a refusal by its number, with the cause's letter and the place where it gives them
abbrev pub refusing : Refusal → Reply
refusing e = record { refusal = number_of e; cause = cause_in (values_of e); place = place_in (values_of e) }

abbrev pub reply_of : {X : Type 0} → Result X Refusal → Reply
reply_of (Ok x) = accepting
reply_of (Err e) = refusing e

-- 0 exactly if the text is valid and not too long; 1 exactly if it is too long; and 2, its cause and its place exactly for
-- the fault of a text that is not too long. One of these holds of each text.
pub record Replied (w : Text) (r : Reply) : Type 0 where
  pub valid : (r ≡ accepting) ↔ ((length w ≤ longest_text) × Valid w)
  pub too_long : (r ≡ refusing TextTooLong) ↔ (longest_text < length w)
  pub faulty : (f : Fault) → (r ≡ refusing (Invalid f)) ↔ ((length w ≤ longest_text) × FaultOf w f)
