-- The lines of a text.
use Rattle.std.specs.Prelude.{◌≡◌, ℕ, ◌+◌, ◌<◌, List, [], ◌∷◌, length, take, drop, position, unwrap_or, ◌==◌}
use Rattle.std.specs.List.{FoldsTo}

-- how many bytes stand before the first byte 10, or in all where there is none
abbrev pub line_length : List ℕ → ℕ
line_length w = unwrap_or (position (λ b. b == 10) w) (length w)

-- The first line of a text, and what stands behind its end.
pub record Next (text first left : List ℕ) : Type 0 where
  pub filled : 0 < length text
  pub line : first ≡ take (line_length text) text
  pub rest : left ≡ drop (line_length text + 1) text
  pub shorter : length left < length text

-- the lines of a text, in their order
abbrev pub LinesOf : List ℕ → List (List ℕ) → Type 0
LinesOf w [] = w ≡ []
LinesOf w (l ∷ ls) = (left : List ℕ) × Next w l left × LinesOf left ls

-- Steps of R, one for each line of the text, lead from s to t.
pub record OverLines {S : Type 0} (R : S → List ℕ → S → Type 0) (text : List ℕ) (s t : S) : Type 0 where
  pub lines : List (List ℕ)
  pub all : LinesOf text lines
  pub steps : FoldsTo R s lines t
