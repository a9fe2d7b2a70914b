-- What is said of a whole text.
use Rattle.std.proofs.Common.{◌≡◌, ℕ, ◌<◌, ◌≤◌, List, [], ◌∷◌, length, Ok, Err, refl, ap, subst, ap₂, arith}
use Rattle.grammar.specs.declared.error.Cause.{Cause}
use Rattle.grammar.specs.declared.error.Cause.TheVariants.{Ended, TooDeep, Unexpected}
use Rattle.grammar.specs.declared.error.Fault.{Fault}
use Rattle.grammar.specs.declared.error.Refusal.TheVariants.{TextTooLong, Invalid}
use Rattle.grammar.specs.Shape.{Text}
use Rattle.grammar.specs.Valid.{longest_text, Valid, FaultOf}
use Rattle.grammar.specs.Refusals.{Outcome, accepted, refused, letter_of, outcome}
use Rattle.grammar.proofs.ScanExact.{same_fault}
use Rattle.reader.specs.Judged.{Judged}

same_letter : (c d : Cause) → letter_of c ≡ letter_of d → c ≡ d
same_letter Ended Ended e = refl
same_letter Ended TooDeep e = absurd (omega arith)
same_letter Ended Unexpected e = absurd (omega arith)
same_letter TooDeep Ended e = absurd (omega arith)
same_letter TooDeep TooDeep e = refl
same_letter TooDeep Unexpected e = absurd (omega arith)
same_letter Unexpected Ended e = absurd (omega arith)
same_letter Unexpected TooDeep e = absurd (omega arith)
same_letter Unexpected Unexpected e = refl

module _ {X : Type 0} where
  same_number : (m n : ℕ) (vs us : List ℕ) → ◌≡◌ {A = Outcome X} (refused m vs) (refused n us) → m ≡ n
  same_number m n vs us e = cc

  accepted_not : (x : X) (n : ℕ) (vs : List ℕ) → accepted x ≡ refused n vs → ⊥
  accepted_not x n vs e = let z : ◌≡◌ {A = ℕ} 0 1 = cc in omega arith

  told_fault : (f g : Fault) → ◌≡◌ {A = Outcome X} (refused 2 (letter_of f.cause ∷ f.place ∷ [])) (refused 2 (letter_of g.cause ∷ g.place ∷ [])) → f ≡ g
  told_fault f g e =
      let l : letter_of f.cause ≡ letter_of g.cause = cc in
      let p : f.place ≡ g.place = cc in
      ap₂ (λ (c : Cause) (n : ℕ). record { cause = c; place = n }) (same_letter f.cause g.cause l) p

  pub judged_long : (w : Text) → longest_text < length w → Judged {X = X} w (outcome (Err TextTooLong))
  judged_long w h = record {
    valid = (λ e. absurd e, λ p. omega (arith, p.0));
    too_long = (λ e. h, λ p. refl);
    faulty = λ f. (λ e. absurd (omega (arith, same_number 1 2 _ _ e)), λ p. absurd (omega (arith, p.0)));
  }

  pub judged_valid : (w : Text) (x : X) → length w ≤ longest_text → Valid w → Judged w (outcome (Ok x))
  judged_valid w x h v = record {
    valid = (λ e. (h, v), λ p. tt);
    too_long = (λ e. absurd (accepted_not x 1 [] e), λ p. absurd (omega arith));
    faulty = λ f. (λ e. absurd (accepted_not x 2 _ e), λ p. absurd (p.1.invalid v));
  }

  pub judged_fault : (w : Text) (g : Fault) → length w ≤ longest_text → FaultOf w g → Judged {X = X} w (outcome (Err (Invalid g)))
  judged_fault w g h p = record {
    valid = (λ e. absurd e, λ q. p.invalid q.1);
    too_long = (λ e. absurd (omega (arith, same_number 2 1 _ _ e)), λ q. absurd (omega arith));
    faulty = λ f. (
      λ e. (h, subst (λ (x : Fault). FaultOf w x) (told_fault g f e) p),
      λ q. ap (λ (x : Fault). refused 2 (letter_of x.cause ∷ x.place ∷ [])) (same_fault w g f p q.1),
    );
  }

-- what is said of a text, whatever value comes with it
pub judged_any : {X Y : Type 0} (w : Text) (x : X) (y : Y) → Judged w (accepted x) → Judged w (accepted y)
judged_any w x y j = let p = j.valid.0 tt in judged_valid w y p.0 p.1

again : {X Y : Type 0} (m n : ℕ) (us vs : List ℕ) → ◌≡◌ {A = Outcome X} (refused m us) (refused n vs) → ◌≡◌ {A = Outcome Y} (refused m us) (refused n vs)
again m n us vs e = let p : m ≡ n = cc in let q : us ≡ vs = cc in ap₂ (λ (k : ℕ) (ws : List ℕ). refused k ws) p q

pub judged_none : {X Y : Type 0} (w : Text) (n : ℕ) (vs : List ℕ) → Judged {X = X} w (refused n vs) → Judged {X = Y} w (refused n vs)
judged_none w n vs j = record {
  valid = j.valid;
  too_long = (λ e. j.too_long.0 (again _ _ _ _ e), λ h. again _ _ _ _ (j.too_long.1 h));
  faulty = λ f. (λ e. (j.faulty f).0 (again _ _ _ _ e), λ h. again _ _ _ _ ((j.faulty f).1 h));
}
