-- Whether a text goes on with a byte.
use Rattle.std.specs.Prelude.{◌≡◌, ℕ, ◌+◌, ◌<◌, Bool, true, false, ◌∷◌, length, drop, ◌≢◌}
use Rattle.grammar.specs.Shape.{Text}

-- the byte stands at `from`, and is passed
pub record Ate (text : Text) (from byte to : ℕ) : Type 0 where
  pub within : from < length text
  pub past : to ≡ from + 1
  pub here : drop from text ≡ byte ∷ drop to text

-- another byte stands there, or none
pub record Stayed (text : Text) (from byte to : ℕ) : Type 0 where
  pub same : to ≡ from
  pub other : (v : Text) → drop from text ≢ byte ∷ v

abbrev pub Eaten : Text → ℕ → ℕ → Bool → ℕ → Type 0
Eaten text from b true to = Ate text from b to
Eaten text from b false to = Stayed text from b to
