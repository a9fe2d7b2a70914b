-- The keys of the rows that stand for a book. A type's row: its kind and two numbers. A field's row, for each tail of a
-- list of fields: the number of its first field, the row of the tail behind it, and how many fields it has.
use Rattle.std.specs.Prelude.{ℕ, ◌+◌, List, [], ◌∷◌, map, length, nat_eq}
use Rattle.std.proofs.Math.Option.{Option, none, some}
use Rattle.grammar.specs.Lists.{same_list, place}
use Rattle.grammar.specs.Shape.{Text, Shape, basic, printed}
use Rattle.grammar.specs.Parts.{fields}
use Rattle.grammar.specs.Read.{reading}
use Rattle.book.specs.Plain.{same_text, number_of, tails_of}
use Rattle.book.specs.Nodes.{Node, array, maybe, dict, structure}

-- The rows of fields are numbered from 1; the empty list has none, written 0.
abbrev pub text_tail_number : List (List Text) → List Text → ℕ
text_tail_number T [] = 0
text_tail_number T (f ∷ fs) = place (same_list same_text) T (f ∷ fs) + 1

abbrev pub tail_number : List (List ℕ) → List ℕ → ℕ
tail_number T [] = 0
tail_number T (f ∷ fs) = place (same_list nat_eq) T (f ∷ fs) + 1

-- The kinds: 1 an array, 2 a dictionary, 3 a structure, 4 a maybe.
abbrev pub shape_key : List Text → Option Shape → List ℕ
shape_key b none = 0 ∷ 0 ∷ 0 ∷ []
shape_key b (some (basic c h)) = 0 ∷ 0 ∷ 0 ∷ []
shape_key b (some (Shape.array t)) = 1 ∷ number_of b (printed t) ∷ 0 ∷ []
shape_key b (some (Shape.dict k v)) = 2 ∷ number_of b (printed k) ∷ number_of b (printed v) ∷ []
shape_key b (some (Shape.structure t ts)) =
    let fs : List Text = map printed (fields (Shape.structure t ts)) in
    3 ∷ text_tail_number (tails_of b) fs ∷ length fs ∷ []
shape_key b (some (Shape.maybe t)) = 4 ∷ number_of b (printed t) ∷ 0 ∷ []

-- the key of a type's row, from its text
unfoldable pub type_key_of : List Text → Text → List ℕ
type_key_of b w = shape_key b (reading w)

-- the key of a field's row, from the texts of the tail
unfoldable pub field_key_of : List Text → List Text → List ℕ
field_key_of b [] = 0 ∷ 0 ∷ 0 ∷ []
field_key_of b (f ∷ fs) = number_of b f ∷ text_tail_number (tails_of b) fs ∷ length (f ∷ fs) ∷ []

-- The same over numbers, where T are the tails.
abbrev pub node_key : List (List ℕ) → Node → List ℕ
node_key T (array n) = 1 ∷ n ∷ 0 ∷ []
node_key T (dict k v) = 2 ∷ k ∷ v ∷ []
node_key T (structure fs) = 3 ∷ tail_number T fs ∷ length fs ∷ []
node_key T (maybe n) = 4 ∷ n ∷ 0 ∷ []

abbrev pub tail_key : List (List ℕ) → List ℕ → List ℕ
tail_key T [] = 0 ∷ 0 ∷ 0 ∷ []
tail_key T (f ∷ fs) = f ∷ tail_number T fs ∷ length (f ∷ fs) ∷ []
