-- What entering a part of a text keeps, and where it comes to.
use Rattle.std.specs.Prelude.{◌≡◌, ℕ, ◌<◌, List, Result, IfOk}
use Rattle.grammar.specs.declared.error.Refusal.{Refusal}
use Rattle.grammar.specs.Shape.{Text}
use Rattle.book.specs.Plain.{Limits}
use Rattle.building.specs.Building.{Goes}
use Rattle.building.specs.declared.entering.Builder.{Builder}

-- The maker is the same one and the text the same text. After an answer the place is further on, and the numbers that wait
-- are those that waited.
pub record Went {M : Type 0} {N : ℕ} (P : M → M → Type 0) (L : M → Limits) (s s' : Builder M N) (r : Result ℕ Refusal) : Type 0 where
  pub same_maker : s'.maker.ghost_name ≡ s.maker.ghost_name
  pub text : s'.cursor.text.now ≡ s.cursor.text.now
  pub forward : IfOk r (λ n. s.cursor.at < s'.cursor.at)
  pub kept : IfOk r (λ n. s'.pending ≡ s.pending)
  pub grew : Goes P L s.maker.now s'.maker.now

-- What is said of a part of a text, of a builder before and after it was entered.
abbrev pub Came : {M : Type 0} {N : ℕ} → (Limits → Text → ℕ → List Text → Result ℕ Refusal → ℕ → List Text → Type 0) → (M → Limits) → (M → List Text) → Builder M N → Result ℕ Refusal → Builder M N → Type 0
Came P L B s r s' = P (L s.maker.now) s.cursor.text.now s.cursor.at (B s.maker.now) r s'.cursor.at (B s'.maker.now)
