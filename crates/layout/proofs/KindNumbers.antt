-- A kind from its number.
use Rattle.std.proofs.Common.{◌≡◌, ℕ, eqb, cond, sym, refl, ap, ◌∙◌}
use Rattle.layout.specs.declared.row.Kind.{Kind}
use Rattle.layout.specs.declared.row.Kind.TheVariants.{Blank, Array, Dict, Structure, Maybe}
use Rattle.layout.specs.Kinds.{kind_number}

abbrev pub kind_of : ℕ → Kind
kind_of n = cond (eqb n 0) Blank (cond (eqb n 1) Array (cond (eqb n 2) Dict (cond (eqb n 3) Structure Maybe)))

pub kind_back : (k : Kind) → kind_of (kind_number k) ≡ k
kind_back Blank = refl
kind_back Array = refl
kind_back Dict = refl
kind_back Structure = refl
kind_back Maybe = refl

pub same_kind : (a b : Kind) → kind_number a ≡ kind_number b → a ≡ b
same_kind a b e = sym (kind_back a) ∙ ap kind_of e ∙ kind_back b
