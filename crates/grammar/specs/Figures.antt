-- The figures of a signature, worked out from its printed bytes.
use Rattle.std.specs.Prelude.{ℕ, max, Bool, true, false, cond, ◌&&◌, ◌||◌, length, codes, nat_eq}
use Rattle.std.proofs.Math.Option.{Option, none, some}
use Rattle.grammar.specs.declared.figures.Figures.{Figures}
use Rattle.grammar.specs.Lists.{has}
use Rattle.grammar.specs.Shape.{Text, Shape, Shapes, basic, array, dict, structure, maybe, nil, more, printed}
use Rattle.grammar.specs.Depth.{structure_depth, array_depth}
use Rattle.grammar.specs.Read.{reading}

-- The D-Bus alignment: 1 for y g v; 2 for n q; 8 for x t d; 4 for the other codes; none, written 0, for a maybe.
abbrev pub dbus_of_code : ℕ → ℕ
dbus_of_code c = cond (has nat_eq (codes "ygv") c) 1 (cond (has nat_eq (codes "nq") c) 2 (cond (has nat_eq (codes "xtd") c) 8 4))

abbrev pub dbus_alignment : Shape → ℕ
dbus_alignment (basic c h) = dbus_of_code c
dbus_alignment (array t) = 4
dbus_alignment (dict k v) = 4
dbus_alignment (structure t ts) = 8
dbus_alignment (maybe t) = 0

-- The GVariant alignment: 1 for y b s o g; 2 for n q; 8 for x t d v; 4 for the other codes; that of the child, or the
-- largest of the parts.
abbrev pub gvariant_of_code : ℕ → ℕ
gvariant_of_code c = cond (has nat_eq (codes "ybsog") c) 1 (cond (has nat_eq (codes "nq") c) 2 (cond (has nat_eq (codes "xtdv") c) 8 4))

abbrev mutual
  pub gvariant_alignment : Shape → ℕ
  gvariant_alignment (basic c h) = gvariant_of_code c
  gvariant_alignment (array t) = gvariant_alignment t
  gvariant_alignment (dict k v) = max (gvariant_alignment k) (gvariant_alignment v)
  gvariant_alignment (structure t ts) = max (gvariant_alignment t) (gvariant_alignments ts)
  gvariant_alignment (maybe t) = gvariant_alignment t

  pub gvariant_alignments : Shapes → ℕ
  gvariant_alignments nil = 0
  gvariant_alignments (more t ts) = max (gvariant_alignment t) (gvariant_alignments ts)

-- Each value has the same size: the numbers, and the structures of only such fields.
abbrev pub fixed_code : ℕ → Bool
fixed_code c = has nat_eq (codes "ybnqiuxtdh") c

abbrev mutual
  pub is_fixed : Shape → Bool
  is_fixed (basic c h) = fixed_code c
  is_fixed (array t) = false
  is_fixed (dict k v) = false
  is_fixed (structure t ts) = is_fixed t && are_fixed ts
  is_fixed (maybe t) = false

  pub are_fixed : Shapes → Bool
  are_fixed nil = true
  are_fixed (more t ts) = is_fixed t && are_fixed ts

-- It is a maybe, or one stands among its parts.
abbrev mutual
  pub holds_maybe : Shape → Bool
  holds_maybe (basic c h) = false
  holds_maybe (array t) = holds_maybe t
  holds_maybe (dict k v) = holds_maybe k || holds_maybe v
  holds_maybe (structure t ts) = holds_maybe t || hold_maybe ts
  holds_maybe (maybe t) = true

  pub hold_maybe : Shapes → Bool
  hold_maybe nil = false
  hold_maybe (more t ts) = holds_maybe t || hold_maybe ts

abbrev pub figures_of : Shape → Figures
figures_of t = record {
  length = length (printed t);
  structures = structure_depth t;
  arrays = array_depth t;
  dbus = dbus_alignment t;
  gvariant = gvariant_alignment t;
  fixed = is_fixed t;
  maybe = holds_maybe t;
}

-- Unit, whose text is empty.
abbrev pub unit_figures : Figures
unit_figures = record { length = 0; structures = 0; arrays = 0; dbus = 8; gvariant = 8; fixed = true; maybe = false }

abbrev pub figures_by : Option Shape → Figures
figures_by none = unit_figures
figures_by (some t) = figures_of t

-- the figures of the signature whose printed bytes the text is; the empty text is Unit's
unfoldable pub text_figures : Text → Figures
text_figures w = figures_by (reading w)
