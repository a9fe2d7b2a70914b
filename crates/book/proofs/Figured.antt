-- The figures of a container, worked out from those of its parts, are those of its shape.
use Rattle.std.proofs.Common.{◌≡◌, ℕ, zero, suc, ◌-◌, ◌<◌, List, [], ◌∷◌, ◌++◌, map, length, get_or, sym, refl, ap, ◌∙◌, ap₂, arith, length-append}
use native.Mathlib.Decide.{dec_lt}
use Rattle.std.proofs.lemmas.List.{get_or_append_left, get_or-map}
use Rattle.std.proofs.lemmas.Bool.{lt-ltb, le-ltb}
use Rattle.grammar.specs.declared.figures.Figures.{Figures}
use Rattle.grammar.specs.Shape.{basic_codes, is_basic, Shape, Shapes, more, printed, printed_all}
use Rattle.grammar.specs.Depth.{structure_depths, array_depths}
use Rattle.grammar.specs.Figures.{figures_of, gvariant_alignments, are_fixed, hold_maybe}
use Rattle.book.specs.Nodes.{Node, array, maybe, dict, structure, code_figures, blank_figures, array_figures, maybe_figures, dict_figures, with_field, structure_figures, figures_at, field_figures, node_figures, figures_from, basics, byte, shape_at, shapes_at, node_shape, Part, Parts, Known}
use Rattle.book.proofs.NodeShapes.{basics_count, at_shape}

basics_figures : map code_figures basic_codes ≡ map figures_of basics
unfolding basics is_basic
basics_figures = refl

pub shape_figures : (ss : List Shape) (n : ℕ) → Part (length ss) n → figures_at (map figures_of ss) n ≡ figures_of (shape_at ss n)
shape_figures ss n p = go n p (dec_lt n 15)
  where
    go : (n : ℕ) → Part (length ss) n → Dec (n < 15) → figures_at (map figures_of ss) n ≡ figures_of (shape_at ss n)
    go zero p d = absurd (omega arith)
    go (suc n) p (yes l) = let c = basics_count in
        rw (lt-ltb (suc n) 15 l) (ap (λ (fs : List Figures). get_or fs n blank_figures) basics_figures ∙ get_or-map figures_of basics n byte blank_figures (omega arith) ∙ ap figures_of (sym (get_or_append_left basics ss byte n (omega arith))) ∙ ap (λ (k : ℕ). figures_of (get_or (basics ++ ss) k byte)) (omega arith))
    go (suc n) p (no g) = rw (le-ltb (suc n) 15 (omega arith)) (get_or-map figures_of ss (suc n - 15) byte blank_figures (omega arith) ∙ ap figures_of (sym (at_shape ss (suc n) (omega arith))))

-- the figures of shapes in a row
abbrev row_figures : Shapes → Figures
row_figures ts = record { length = length (printed_all ts); structures = structure_depths ts; arrays = array_depths ts; dbus = 8; gvariant = gvariant_alignments ts; fixed = are_fixed ts; maybe = hold_maybe ts }

abbrev resized : Figures → ℕ → Figures
resized f n = record { length = n; structures = f.structures; arrays = f.arrays; dbus = f.dbus; gvariant = f.gvariant; fixed = f.fixed; maybe = f.maybe }

with_row : (t : Shape) (ts : Shapes) → with_field (figures_of t) (row_figures ts) ≡ row_figures (more t ts)
with_row t ts = ap (resized (row_figures (more t ts))) (sym (length-append (printed t) (printed_all ts)))

row_figures_are : (ss : List Shape) (ns : List ℕ) → Parts (length ss) ns → field_figures (map figures_of ss) ns ≡ row_figures (shapes_at ss ns)
row_figures_are ss [] p = refl
row_figures_are ss (n ∷ ns) p = ap₂ with_field (shape_figures ss n p.0) (row_figures_are ss ns p.1) ∙ with_row (shape_at ss n) (shapes_at ss ns)

array_figures_are : (t : Shape) → array_figures (figures_of t) ≡ figures_of (Shape.array t)
array_figures_are t = ap (resized (figures_of (Shape.array t))) (omega arith)

maybe_figures_are : (t : Shape) → maybe_figures (figures_of t) ≡ figures_of (Shape.maybe t)
maybe_figures_are t = ap (resized (figures_of (Shape.maybe t))) (omega arith)

dict_figures_are : (k v : Shape) → dict_figures (figures_of k) (figures_of v) ≡ figures_of (Shape.dict k v)
dict_figures_are k v = ap (resized (figures_of (Shape.dict k v))) (omega (arith, length-append (printed k) (printed v ++ 125 ∷ []), length-append (printed v) (125 ∷ [])))

structure_figures_are : (t : Shape) (ts : Shapes) → structure_figures (with_field (figures_of t) (row_figures ts)) ≡ figures_of (Shape.structure t ts)
structure_figures_are t ts = ap (resized (figures_of (Shape.structure t ts))) (omega (arith, length-append (printed t) (printed_all ts ++ 41 ∷ []), length-append (printed_all ts) (41 ∷ [])))

pub node_figures_are : (ss : List Shape) (x : Node) → Known (length ss) x → node_figures (map figures_of ss) x ≡ figures_of (node_shape ss x)
node_figures_are ss (array n) k = ap array_figures (shape_figures ss n k) ∙ array_figures_are (shape_at ss n)
node_figures_are ss (maybe n) k = ap maybe_figures (shape_figures ss n k) ∙ maybe_figures_are (shape_at ss n)
node_figures_are ss (dict a b) k = ap₂ dict_figures (shape_figures ss a k.0) (shape_figures ss b k.1) ∙ dict_figures_are (shape_at ss a) (shape_at ss b)
node_figures_are ss (structure []) k = absurd k
node_figures_are ss (structure (n ∷ ns)) k =
    ap structure_figures (ap₂ with_field (shape_figures ss n k.0) (row_figures_are ss ns k.1)) ∙ structure_figures_are (shape_at ss n) (shapes_at ss ns)

pub figures_push : (acc : List Figures) (xs : List Node) (y : Node) → figures_from acc (xs ++ y ∷ []) ≡ figures_from acc xs ++ node_figures (figures_from acc xs) y ∷ []
unfolding figures_from
figures_push acc [] y = refl
figures_push acc (x ∷ xs) y = figures_push (acc ++ node_figures acc x ∷ []) xs y
