-- Steps over the lines of a text, begun with its first line.
use Rattle.std.proofs.Common.{◌≡◌, ℕ, List, [], ◌∷◌, refl}
use Rattle.textlines.specs.Lines.{Next, OverLines}

module _ {S : Type 0} (R : S → List ℕ → S → Type 0) where
  pub over_none : (text : List ℕ) (s : S) → text ≡ [] → OverLines R text s s
  over_none text s e = record { lines = []; all = e; steps = refl }

  pub over_first : (text line left : List ℕ) (s m t : S) → Next text line left → R s line m → OverLines R left m t → OverLines R text s t
  over_first text line left s m t n r o = record { lines = line ∷ o.lines; all = (left, n, o.all); steps = (m, r, o.steps) }
