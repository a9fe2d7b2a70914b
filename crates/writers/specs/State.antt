-- What a writer holds, and what taking bytes does to it.
use Rattle.std.specs.Prelude.{◌≡◌, ℕ, Bool, List, ◌++◌, length, take, drop, ◌==◌}
use Rattle.writers.specs.Rule.{room, next, accepted}

pub record State : Type 0 where
  -- the bytes that it has taken, in order
  pub taken : List ℕ
  -- what it was made with, as a decision on its contents and the byte offered
  pub rule : List ℕ → ℕ → Bool
  -- what lies past the bytes that it has taken; each byte taken covers one
  pub rest : List ℕ
  -- the place that it writes to
  pub site : ℕ

-- The writer takes just these bytes, in this order.
pub record Took (old new : State) (bytes : List ℕ) : Type 0 where
  pub taken : new.taken ≡ old.taken ++ bytes
  pub rule : new.rule ≡ old.rule
  pub rest : new.rest ≡ drop (length bytes) old.rest
  pub site : new.site ≡ old.site

-- What a writer makes of the bytes bs, which are offered to it in order until it declines one: it takes the longest front
-- that its rule accepts one after another.
pub record Wrote (old new : State) (bs : List ℕ) (taken : ℕ) (all : Bool) : Type 0 where
  pub count : taken ≡ accepted old.rule old.taken bs
  pub whole : all ≡ (taken == length bs)
  pub took : Took old new (take taken bs)

-- a buffer at a place, of which so many bytes were written
abbrev pub buffer_state : List ℕ → ℕ → ℕ → State
buffer_state buffer count site = record { taken = take count buffer; rule = room (length buffer); rest = drop count buffer; site = site }

-- a text, of which so many bytes were matched; nothing is written
abbrev pub text_state : List ℕ → ℕ → State
text_state text count = record { taken = take count text; rule = next text; rest = drop count text; site = 0 }
