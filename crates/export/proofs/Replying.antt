-- A reply says what the outcome says.
use Rattle.std.proofs.Common.{◌≡◌, ℕ, ◌<◌, List, [], ◌∷◌, Ok, Err, Result, sym, refl, ap, subst, ap₂, arith}
use Rattle.grammar.specs.declared.error.Refusal.{Refusal}
use Rattle.grammar.specs.declared.error.Refusal.TheVariants.{TextTooLong, Invalid, Unknown, UnitPart, NoFields, WrongKind, FormTooLong, NoRows, ShortBuffer}
use Rattle.grammar.specs.Shape.{Text}
use Rattle.grammar.specs.Refusals.{Outcome, accepted, refused, number_of, values_of, letter_of, outcome}
use Rattle.reader.specs.Judged.{Judged}
use Rattle.export.specs.declared.reply.Reply.{Reply}
use Rattle.export.specs.Replies.{cause_in, place_in, accepting, reply_of, Replied}

positive : (e : Refusal) → 0 < number_of e
positive TextTooLong = omega arith
positive (Invalid f) = omega arith
positive (Unknown p) = omega arith
positive (UnitPart p) = omega arith
positive NoFields = omega arith
positive WrongKind = omega arith
positive FormTooLong = omega arith
positive NoRows = omega arith
positive ShortBuffer = omega arith

module _ {X : Type 0} where
  abbrev said : Outcome X → Reply
  said (accepted x) = accepting
  said (refused n vs) = record { refusal = n; cause = cause_in vs; place = place_in vs }

  accepted_not : (x : X) (n : ℕ) (vs : List ℕ) → accepted x ≡ refused n vs → ⊥
  accepted_not x n vs e = let z : ◌≡◌ {A = ℕ} 0 1 = cc in omega arith

  -- the number 1 is the refusal of a long text alone
  long : (e : Refusal) → number_of e ≡ 1 → ◌≡◌ {A = Outcome X} (outcome (Err e)) (refused 1 [])
  long TextTooLong h = refl
  long (Invalid f) h = absurd (omega arith)
  long (Unknown p) h = absurd (omega arith)
  long (UnitPart p) h = absurd (omega arith)
  long NoFields h = absurd (omega arith)
  long WrongKind h = absurd (omega arith)
  long FormTooLong h = absurd (omega arith)
  long NoRows h = absurd (omega arith)
  long ShortBuffer h = absurd (omega arith)

  -- and 2 is that of a fault
  fault : (e : Refusal) (c p : ℕ) → number_of e ≡ 2 → cause_in (values_of e) ≡ c → place_in (values_of e) ≡ p → ◌≡◌ {A = Outcome X} (outcome (Err e)) (refused 2 (c ∷ p ∷ []))
  fault TextTooLong c p h l q = absurd (omega arith)
  fault (Invalid f) c p h l q = ap₂ (λ (m n : ℕ). refused 2 (m ∷ n ∷ [])) l q
  fault (Unknown n) c p h l q = absurd (omega arith)
  fault (UnitPart n) c p h l q = absurd (omega arith)
  fault NoFields c p h l q = absurd (omega arith)
  fault WrongKind c p h l q = absurd (omega arith)
  fault FormTooLong c p h l q = absurd (omega arith)
  fault NoRows c p h l q = absurd (omega arith)
  fault ShortBuffer c p h l q = absurd (omega arith)

  replied : (w : Text) (r : Result X Refusal) → Judged w (outcome r) → Replied w (reply_of r)
  replied w (Ok x) j = record {
    valid = (λ e. j.valid.0 tt, λ p. refl);
    too_long = (λ e. absurd (omega (arith, ap (λ (s : Reply). s.refusal) e)), λ p. absurd (accepted_not x 1 [] (j.too_long.1 p)));
    faulty = λ f. (λ e. absurd (omega (arith, ap (λ (s : Reply). s.refusal) e)), λ p. absurd (accepted_not x 2 _ ((j.faulty f).1 p)));
  }
  replied w (Err e) j = record {
    valid = (λ h. absurd (omega (arith, positive e, ap (λ (s : Reply). s.refusal) h)), λ p. absurd (j.valid.1 p));
    too_long = (λ h. j.too_long.0 (long e (ap (λ (s : Reply). s.refusal) h)), λ p. ap said (j.too_long.1 p));
    faulty = λ f. (
      λ h. (j.faulty f).0 (fault e (letter_of f.cause) f.place (ap (λ (s : Reply). s.refusal) h) (ap (λ (s : Reply). s.cause) h) (ap (λ (s : Reply). s.place) h)),
      λ p. ap said ((j.faulty f).1 p),
    );
  }

  pub replied_as : (w : Text) (r : Result X Refusal) (s : Reply) → s ≡ reply_of r → Judged w (outcome r) → Replied w s
  replied_as w r s e j = subst (λ (t : Reply). Replied w t) (sym e) (replied w r j)
