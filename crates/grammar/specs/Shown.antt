-- The figures of a signature as they are shown.
use Rattle.std.specs.Prelude.{ℕ, Bool, cond, List, ◌++◌, codes, decimal}
use Rattle.grammar.specs.declared.figures.Figures.{Figures}

-- `true` or `false`
abbrev pub truth : Bool → List ℕ
truth b = cond b (codes "true") (codes "false")

-- the length, the alignments in D-Bus and GVariant, fixed size, holds-a-maybe, and the depths of structures and arrays
abbrev pub figures_shown : Figures → List ℕ
figures_shown f =
    codes "length " ++ (decimal f.length ++ (codes ", alignment " ++ (decimal f.dbus ++ (codes " " ++ (decimal f.gvariant
    ++ (codes ", fixed " ++ (truth f.fixed ++ (codes ", maybe " ++ (truth f.maybe ++ (codes ", depths " ++ (decimal f.structures
    ++ (codes " " ++ decimal f.arrays))))))))))))
