-- The forms in which a signature is written, and their bytes.
use Rattle.std.specs.Prelude.{◌≡◌, ℕ, ◌+◌, Bool, true, false, cond, List, [], ◌∷◌, ◌++◌, length, Some, None, nat_lt, slice_get, Option as Optional}
use Rattle.std.proofs.Math.Option.{Option, none, some}
use Rattle.grammar.specs.Shape.{Text, Shape, basic, array, maybe, dict, structure, more, printed_all}
use Rattle.grammar.specs.Read.{reading}
use Rattle.grammar.specs.Refusals.{Outcome, accepted}
use Rattle.book.specs.Plain.{text_of}
use Rattle.book.specs.Questions.{if_known}

-- A text without the outermost pair of parentheses, where it is a structure's; any other text is left as it is.
abbrev pub bare_by : Option Shape → Text → Text
bare_by none w = w
bare_by (some (basic c h)) w = w
bare_by (some (array t)) w = w
bare_by (some (maybe t)) w = w
bare_by (some (dict k v)) w = w
bare_by (some (structure t ts)) w = printed_all (more t ts)

unfoldable pub bare_text : Text → Text
bare_text w = bare_by (reading w) w

-- a text is its bare form in a pair of parentheses, or is bare itself
abbrev pub Paired : Text → Bool → Type 0
Paired w true = w ≡ 40 ∷ (bare_text w ++ 41 ∷ [])
Paired w false = bare_text w ≡ w

-- how long the printed form of n is; none where it is no number of the book
abbrev pub length_in : List Text → ℕ → Optional ℕ
length_in b n = cond (nat_lt n (15 + length b)) (Some (length (text_of b n))) None

-- the byte at place p of the printed form of n; none past its end
unfoldable pub byte_of : List Text → ℕ → ℕ → Outcome (Optional ℕ)
byte_of b n p = if_known (length b) n (accepted (slice_get (text_of b n) p))
