-- The same book over numbers: each container as the numbers of its parts.
use Rattle.std.specs.Prelude.{ℕ, ◌+◌, ◌-◌, ◌<◌, max, Bool, true, false, cond, ◌&&◌, ◌||◌, List, [], ◌∷◌, ◌++◌, map, length, nat_eq, nat_lt, slice_index_or, refl}
use Rattle.std.proofs.Math.Option.{Option, none, some}
use Rattle.grammar.specs.declared.figures.Figures.{Figures}
use Rattle.grammar.specs.Lists.{same_list, place, add, add_all, tails}
use Rattle.grammar.specs.Shape.{Text, basic_codes, is_basic, Shape, Shapes, basic, nil, more, printed}
use Rattle.grammar.specs.Figures.{dbus_of_code, gvariant_of_code, fixed_code, unit_figures}
use Rattle.grammar.specs.Read.{reading, read_all}
use Rattle.grammar.specs.Refusals.{accepted, refused}
use Rattle.book.specs.Plain.{Call, from_bytes, Answer, Limits, Needed, Refusing, early, late, enclosed, ◌else◌}
use Rattle.book.specs.Plain

pub data Node : Type 0 where
  array maybe : ℕ → Node
  dict : ℕ → ℕ → Node
  structure : List ℕ → Node

-- a node as a list of numbers, from which it can be told again
abbrev pub code : Node → List ℕ
code (array n) = 1 ∷ n ∷ []
code (dict k v) = 2 ∷ k ∷ v ∷ []
code (structure fs) = 3 ∷ fs
code (maybe n) = 4 ∷ n ∷ []

abbrev pub same_node : Node → Node → Bool
same_node x y = same_list nat_eq (code x) (code y)

-- the number of a container, and the book with it
abbrev pub enter : List Node → Node → ℕ × List Node
enter b x = (15 + place same_node b x, add same_node b x)

-- a shape's number, and the book with all its containers
abbrev mutual
  pub intern : Shape → List Node → ℕ × List Node
  intern (basic c h) b = (1 + place nat_eq basic_codes c, b)
  intern (Shape.array t) b = enter (intern t b).1 (array (intern t b).0)
  intern (Shape.maybe t) b = enter (intern t b).1 (maybe (intern t b).0)
  intern (Shape.dict k v) b = enter (intern v (intern k b).1).1 (dict (intern k b).0 (intern v (intern k b).1).0)
  intern (Shape.structure t ts) b = enter (intern_all ts (intern t b).1).1 (structure ((intern t b).0 ∷ (intern_all ts (intern t b).1).0))

  pub intern_all : Shapes → List Node → List ℕ × List Node
  intern_all nil b = ([], b)
  intern_all (more t ts) b = ((intern t b).0 ∷ (intern_all ts (intern t b).1).0, (intern_all ts (intern t b).1).1)

-- The figures of the basic codes, of Unit before them, and of a container from those of its parts.
abbrev pub code_figures : ℕ → Figures
code_figures c = record { length = 1; structures = 0; arrays = 0; dbus = dbus_of_code c; gvariant = gvariant_of_code c; fixed = fixed_code c; maybe = false }

abbrev pub first_figures : List Figures
first_figures = unit_figures ∷ map code_figures basic_codes

abbrev pub blank_figures : Figures
blank_figures = record { length = 0; structures = 0; arrays = 0; dbus = 0; gvariant = 0; fixed = false; maybe = false }

abbrev pub array_figures : Figures → Figures
array_figures f = record { length = 1 + f.length; structures = f.structures; arrays = f.arrays + 1; dbus = 4; gvariant = f.gvariant; fixed = false; maybe = f.maybe }

abbrev pub maybe_figures : Figures → Figures
maybe_figures f = record { length = 1 + f.length; structures = f.structures; arrays = f.arrays; dbus = 0; gvariant = f.gvariant; fixed = false; maybe = true }

abbrev pub dict_figures : Figures → Figures → Figures
dict_figures k v = record {
  length = 3 + (k.length + v.length);
  structures = max k.structures v.structures;
  arrays = max k.arrays v.arrays + 1;
  dbus = 4;
  gvariant = max k.gvariant v.gvariant;
  fixed = false;
  maybe = k.maybe || v.maybe;
}

-- of fields in a row: the sum, the largest, all and any
abbrev pub no_fields : Figures
no_fields = record { length = 0; structures = 0; arrays = 0; dbus = 8; gvariant = 0; fixed = true; maybe = false }

abbrev pub with_field : Figures → Figures → Figures
with_field f r = record {
  length = f.length + r.length;
  structures = max f.structures r.structures;
  arrays = max f.arrays r.arrays;
  dbus = 8;
  gvariant = max f.gvariant r.gvariant;
  fixed = f.fixed && r.fixed;
  maybe = f.maybe || r.maybe;
}

abbrev pub structure_figures : Figures → Figures
structure_figures r = record { length = 2 + r.length; structures = r.structures + 1; arrays = r.arrays; dbus = 8; gvariant = r.gvariant; fixed = r.fixed; maybe = r.maybe }

-- the figures of a number, where `acc` has those of the containers
abbrev pub figures_at : List Figures → ℕ → Figures
figures_at acc n = cond (nat_lt n 15) (slice_index_or first_figures n blank_figures) (slice_index_or acc (n - 15) blank_figures)

abbrev pub field_figures : List Figures → List ℕ → Figures
field_figures acc [] = no_fields
field_figures acc (f ∷ fs) = with_field (figures_at acc f) (field_figures acc fs)

abbrev pub node_figures : List Figures → Node → Figures
node_figures acc (array n) = array_figures (figures_at acc n)
node_figures acc (maybe n) = maybe_figures (figures_at acc n)
node_figures acc (dict k v) = dict_figures (figures_at acc k) (figures_at acc v)
node_figures acc (structure fs) = structure_figures (field_figures acc fs)

-- the figures of all containers, each from those before it
unfoldable pub figures_from : List Figures → List Node → List Figures
figures_from acc [] = acc
figures_from acc (x ∷ xs) = figures_from (acc ++ node_figures acc x ∷ []) xs

abbrev pub size_of : List Node → Node → ℕ
size_of b x = (node_figures (figures_from [] b) x).length

-- the different non-empty tails of the field lists
abbrev pub fields_of : Node → List ℕ
fields_of (array n) = []
fields_of (maybe n) = []
fields_of (dict k v) = []
fields_of (structure fs) = fs

abbrev pub tails_from : List (List ℕ) → List Node → List (List ℕ)
tails_from T [] = T
tails_from T (x ∷ b) = tails_from (add_all (same_list nat_eq) T (tails (fields_of x))) b

abbrev pub tails_of : List Node → List (List ℕ)
tails_of b = tails_from [] b

abbrev pub intern_text : List Node → Option Shape → ℕ × List Node
intern_text b none = (0, b)
intern_text b (some t) = intern t b

abbrev pub grown : List Node → Call → ℕ × List Node
grown b (from_bytes w) = intern_text b (reading (enclosed (read_all w) w))
grown b (Plain.array n) = enter b (array n)
grown b (Plain.maybe n) = enter b (maybe n)
grown b (Plain.dict k v) = enter b (dict k v)
grown b (Plain.structure ns) = enter b (structure ns)

abbrev pub size_call : List Node → Call → ℕ
size_call b (from_bytes w) = length (enclosed (read_all w) w)
size_call b (Plain.array n) = size_of b (array n)
size_call b (Plain.maybe n) = size_of b (maybe n)
size_call b (Plain.dict k v) = size_of b (dict k v)
size_call b (Plain.structure ns) = size_of b (structure ns)

abbrev pub needed : List Node → Call → Needed
needed b c = record { size = size_call b c; types = length (grown b c).1; fields = length (tails_of (grown b c).1) }

abbrev pub answered : List Node → ℕ × List Node → Refusing → Answer × List Node
answered b r (some e) = (refused e.0 e.1, b)
answered b r none = (accepted r.0, r.1)

unfoldable pub call : Limits → List Node → Call → Answer × List Node
call limits b c = answered b (grown b c) (early c (length b) else late limits (needed b c))

abbrev pub run : Limits → List Node → List Call → List Answer × List Node
run limits b [] = ([], b)
run limits b (c ∷ cs) =
    let r : Answer × List Node = call limits b c in
    let s : List Answer × List Node = run limits r.1 cs in
    (r.0 ∷ s.0, s.1)

-- The shapes of the basic codes, and those of a book, each from those before it.
unfoldable pub basics : List Shape
unfolding is_basic
basics =
    basic 121 refl ∷ basic 98 refl ∷ basic 110 refl ∷ basic 113 refl ∷ basic 105 refl ∷ basic 117 refl ∷ basic 120 refl
    ∷ basic 116 refl ∷ basic 100 refl ∷ basic 115 refl ∷ basic 103 refl ∷ basic 111 refl ∷ basic 118 refl ∷ basic 104 refl ∷ []

unfoldable pub byte : Shape
unfolding is_basic
byte = basic 121 refl

abbrev pub shape_at : List Shape → ℕ → Shape
shape_at ss n = slice_index_or (basics ++ ss) (n - 1) byte

abbrev pub shapes_at : List Shape → List ℕ → Shapes
shapes_at ss [] = nil
shapes_at ss (n ∷ ns) = more (shape_at ss n) (shapes_at ss ns)

abbrev pub node_shape : List Shape → Node → Shape
node_shape ss (array n) = Shape.array (shape_at ss n)
node_shape ss (maybe n) = Shape.maybe (shape_at ss n)
node_shape ss (dict k v) = Shape.dict (shape_at ss k) (shape_at ss v)
node_shape ss (structure []) = byte
node_shape ss (structure (n ∷ ns)) = Shape.structure (shape_at ss n) (shapes_at ss ns)

abbrev pub shapes_from : List Shape → List Node → List Shape
shapes_from ss [] = ss
shapes_from ss (x ∷ xs) = shapes_from (ss ++ node_shape ss x ∷ []) xs

abbrev pub texts_of : List Node → List Text
texts_of ns = map printed (shapes_from [] ns)

-- A part is a number of the book, and not Unit's.
abbrev pub Part : ℕ → ℕ → Type 0
Part m n = (0 < n) × (n < 15 + m)

abbrev pub Parts : ℕ → List ℕ → Type 0
Parts m [] = Unit {0}
Parts m (n ∷ ns) = Part m n × Parts m ns

abbrev pub Known : ℕ → Node → Type 0
Known m (array n) = Part m n
Known m (maybe n) = Part m n
Known m (dict k v) = Part m k × Part m v
Known m (structure []) = ⊥
Known m (structure (n ∷ ns)) = Part m n × Parts m ns

-- Each container's parts stand before it; the first has m before it.
abbrev pub Chain : ℕ → List Node → Type 0
Chain m [] = Unit {0}
Chain m (x ∷ xs) = Known m x × Chain (m + 1) xs
