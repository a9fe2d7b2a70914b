-- Some bytes of a printed form in a row.
use Rattle.std.specs.Prelude.{◌≡◌, ℕ, ◌+◌, ◌≤◌, true, false, List, length, take, drop, nat_lt}
use Rattle.grammar.specs.declared.error.Refusal.{Refusal}
use Rattle.grammar.specs.declared.error.Refusal.TheVariants.{Unknown}
use Rattle.grammar.specs.Shape.{Text}
use Rattle.book.specs.Plain.{text_of}
use Rattle.forms.specs.declared.spans.Span.{Span}

-- the bytes of a text that a span covers
abbrev pub bytes_in : Span → Text → Text
bytes_in x w = take x.count (drop x.from w)

-- a span lies inside a text, which is no longer than any printed form
pub record Inside (w : Text) (x : Span) : Type 0 where
  pub within : x.from + x.count ≤ length w
  pub short : length w ≤ 65535

-- n is a number of the book, and x covers the form w in its text
pub record Covers (b : List Text) (n : ℕ) (w : Text) (x : Span) : Type 0 where
  pub known : nat_lt n (15 + length b) ≡ true
  pub inside : Inside (text_of b n) x
  pub bytes : bytes_in x (text_of b n) ≡ w

-- n is no number of the book
pub record NotKnown (b : List Text) (n : ℕ) (e : Refusal) : Type 0 where
  pub unknown : nat_lt n (15 + length b) ≡ false
  pub refusal : e ≡ Unknown 0
