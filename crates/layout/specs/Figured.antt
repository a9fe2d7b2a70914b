-- Figures worked out from those of the parts.
use Rattle.std.specs.Prelude.{◌≡◌, ℕ, ◌+◌, ◌<◌, ◌≤◌, ◌⊎◌, List, [], length}
use Rattle.grammar.specs.declared.figures.Figures.{Figures}
use Rattle.grammar.specs.declared.error.Refusal.{Refusal}
use Rattle.grammar.specs.declared.error.Refusal.TheVariants.{FormTooLong, Unknown, UnitPart}
use Rattle.book.specs.Nodes.{Node, figures_at, figures_from}

-- neither depth is more than the length
pub record Bounded (f : Figures) : Type 0 where
  pub structures : f.structures ≤ f.length
  pub arrays : f.arrays ≤ f.length

-- f are the figures worked out, and the form is short enough
pub record Short (whole f : Figures) : Type 0 where
  pub figures : f ≡ whole
  pub short : whole.length ≤ 65535

-- the form is too long
pub record Long (whole : Figures) (e : Refusal) : Type 0 where
  pub refusal : e ≡ FormTooLong
  pub long : 65535 < whole.length

-- n is a number of the book, and f are its figures
pub record Figured (b : List Node) (n : ℕ) (f : Figures) : Type 0 where
  pub known : n < 15 + length b
  pub figures : f ≡ figures_at (figures_from [] b) n

-- n, at this position, is no number of the book
pub record NotKnown (b : List Node) (n position : ℕ) (e : Refusal) : Type 0 where
  pub unknown : 15 + length b ≤ n
  pub refusal : e ≡ Unknown position

-- n may be a part of a container, and f are its figures
pub record FiguredPart (b : List Node) (n : ℕ) (f : Figures) : Type 0 where
  pub figured : Figured b n f
  pub more : 0 < n

-- n, which is to be the first part, is no number of the book, or Unit
pub record IsUnit (b : List Node) (n : ℕ) (e : Refusal) : Type 0 where
  pub known : n < 15 + length b
  pub unit : n ≡ 0
  pub refusal : e ≡ UnitPart 0

abbrev pub NotPart : List Node → ℕ → Refusal → Type 0
NotPart b n e = NotKnown b n 0 e ⊎ IsUnit b n e
