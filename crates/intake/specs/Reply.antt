-- The line that is written of a filed one.
use Rattle.std.specs.Prelude.{ℕ, cond, List, [], ◌∷◌, ◌++◌, codes, decimal, ◌==◌}
use Rattle.grammar.specs.declared.figures.Figures.{Figures}

-- an alignment in base ten; `-` for none
abbrev pub alignment_shown : ℕ → List ℕ
alignment_shown a = cond (a == 0) (codes "-") (decimal a)

-- `ok`, the number, the length, both alignments and `y` or `n` for the fixed size, with a space (32) behind each; the
-- printed form comes next
abbrev pub before_form : ℕ → Figures → List ℕ
before_form n f =
    codes "ok" ++ 32 ∷ (decimal n ++ 32 ∷ (decimal f.length ++ 32 ∷ (alignment_shown f.dbus ++ 32 ∷ (decimal f.gvariant
    ++ 32 ∷ (cond f.fixed (codes "y") (codes "n") ++ 32 ∷ [])))))
