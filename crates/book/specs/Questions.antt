-- What the questions answer, worked out from the texts alone; and the same over numbers.
use Rattle.std.specs.Prelude.{ℕ, ◌+◌, ◌-◌, Bool, cond, List, [], ◌∷◌, map, length, Some, None, Option as Optional, ◌==◌, nat_lt, slice_index, slice_index_or}
use Rattle.std.proofs.Math.Option.{Option, none, some}
use Rattle.grammar.specs.declared.figures.Figures.{Figures}
use Rattle.grammar.specs.Shape.{Text, Shape, basic, printed}
use Rattle.grammar.specs.Parts.{fields}
use Rattle.grammar.specs.Figures.{text_figures}
use Rattle.grammar.specs.Read.{reading}
use Rattle.grammar.specs.Refusals.{Outcome, accepted, refused}
use Rattle.book.specs.Plain.{same_text, text_of, number_of}
use Rattle.book.specs.Nodes.{Node, array, maybe, dict, structure, figures_from, figures_at}

-- an answer about a number, where so many containers are known
abbrev pub if_known : {A : Type 0} → ℕ → ℕ → Outcome A → Outcome A
if_known count n answer = cond (nat_lt n (15 + count)) answer (refused 3 (0 ∷ []))

-- Questions about the parts of a signature; other kinds refuse with 6.
abbrev pub child_by : List Text → Option Shape → Outcome ℕ
child_by b none = refused 6 []
child_by b (some (basic c h)) = refused 6 []
child_by b (some (Shape.array t)) = accepted (number_of b (printed t))
child_by b (some (Shape.maybe t)) = accepted (number_of b (printed t))
child_by b (some (Shape.dict k v)) = refused 6 []
child_by b (some (Shape.structure t ts)) = refused 6 []

abbrev pub key_by : List Text → Option Shape → Outcome ℕ
key_by b none = refused 6 []
key_by b (some (basic c h)) = refused 6 []
key_by b (some (Shape.array t)) = refused 6 []
key_by b (some (Shape.maybe t)) = refused 6 []
key_by b (some (Shape.dict k v)) = accepted (number_of b (printed k))
key_by b (some (Shape.structure t ts)) = refused 6 []

abbrev pub value_by : List Text → Option Shape → Outcome ℕ
value_by b none = refused 6 []
value_by b (some (basic c h)) = refused 6 []
value_by b (some (Shape.array t)) = refused 6 []
value_by b (some (Shape.maybe t)) = refused 6 []
value_by b (some (Shape.dict k v)) = accepted (number_of b (printed v))
value_by b (some (Shape.structure t ts)) = refused 6 []

-- an answer about the texts of a structure's fields
abbrev pub fields_by : {A : Type 0} → (List Text → Outcome A) → Option Shape → Outcome A
fields_by f none = refused 6 []
fields_by f (some (basic c h)) = refused 6 []
fields_by f (some (Shape.array t)) = refused 6 []
fields_by f (some (Shape.maybe t)) = refused 6 []
fields_by f (some (Shape.dict k v)) = refused 6 []
fields_by f (some (Shape.structure t ts)) = f (map printed (fields (Shape.structure t ts)))

-- the number of the text at place i, or none past the end
abbrev pub number_at : List Text → List Text → ℕ → Optional ℕ
number_at b fs i = cond (nat_lt i (length fs)) (Some (number_of b (slice_index_or fs i []))) None

unfoldable pub child_of : List Text → ℕ → Outcome ℕ
child_of b n = if_known (length b) n (child_by b (reading (text_of b n)))

unfoldable pub key_of : List Text → ℕ → Outcome ℕ
key_of b n = if_known (length b) n (key_by b (reading (text_of b n)))

unfoldable pub value_of : List Text → ℕ → Outcome ℕ
value_of b n = if_known (length b) n (value_by b (reading (text_of b n)))

unfoldable pub len_of : List Text → ℕ → Outcome ℕ
len_of b n = if_known (length b) n (fields_by (λ fs. accepted (length fs)) (reading (text_of b n)))

unfoldable pub get_of : List Text → ℕ → ℕ → Outcome (Optional ℕ)
get_of b n i = if_known (length b) n (fields_by (λ fs. accepted (number_at b fs i)) (reading (text_of b n)))

-- Questions about the figures of a signature.
unfoldable pub figure_of : {A : Type 0} → (Figures → A) → List Text → ℕ → Outcome A
figure_of f b n = if_known (length b) n (accepted (f (text_figures (text_of b n))))

abbrev pub string_length_of : List Text → ℕ → Outcome ℕ
string_length_of = figure_of (λ f. f.length)

abbrev pub fixed_of : List Text → ℕ → Outcome Bool
fixed_of = figure_of (λ f. f.fixed)

abbrev pub maybe_of : List Text → ℕ → Outcome Bool
maybe_of = figure_of (λ f. f.maybe)

-- of structures, and of arrays and dictionaries
abbrev pub depths_of : List Text → ℕ → Outcome (ℕ × ℕ)
depths_of = figure_of (λ f. (f.structures, f.arrays))

pub data Format : Type 0 where
  dbus gvariant : Format

abbrev pub alignment_in : Format → Figures → ℕ
alignment_in dbus f = f.dbus
alignment_in gvariant f = f.gvariant

-- an alignment of 0 is none: a maybe has none in D-Bus, and each signature has one in GVariant
abbrev pub alignment : ℕ → Outcome ℕ
alignment a = cond (a == 0) (refused 6 []) (accepted a)

unfoldable pub alignment_of : Format → List Text → ℕ → Outcome ℕ
alignment_of format b n = if_known (length b) n (alignment (alignment_in format (text_figures (text_of b n))))

-- Whether two numbers have the same text.
unfoldable pub equal_of : List Text → ℕ → ℕ → Outcome Bool
equal_of b m n = if_known (length b) m (cond (nat_lt n (15 + length b)) (accepted (same_text (text_of b m) (text_of b n))) (refused 3 (1 ∷ [])))

-- The same over numbers: a question about a node, for numbers from 15 on.
abbrev pub node_answer : {A : Type 0} → (Node → Outcome A) → List Node → ℕ → Outcome A
node_answer q ns n = if_known (length ns) n (cond (nat_lt n 15) (refused 6 []) (q (slice_index_or ns (n - 15) (array 0))))

abbrev pub node_child : Node → Outcome ℕ
node_child (array m) = accepted m
node_child (maybe m) = accepted m
node_child (dict k v) = refused 6 []
node_child (structure fs) = refused 6 []

abbrev pub node_dict_key : Node → Outcome ℕ
node_dict_key (array m) = refused 6 []
node_dict_key (maybe m) = refused 6 []
node_dict_key (dict k v) = accepted k
node_dict_key (structure fs) = refused 6 []

abbrev pub node_dict_value : Node → Outcome ℕ
node_dict_value (array m) = refused 6 []
node_dict_value (maybe m) = refused 6 []
node_dict_value (dict k v) = accepted v
node_dict_value (structure fs) = refused 6 []

abbrev pub node_fields : {A : Type 0} → (List ℕ → Outcome A) → Node → Outcome A
node_fields f (array m) = refused 6 []
node_fields f (maybe m) = refused 6 []
node_fields f (dict k v) = refused 6 []
node_fields f (structure fs) = f fs

abbrev pub item_at : List ℕ → ℕ → Optional ℕ
item_at fs i = cond (nat_lt i (length fs)) (Some (slice_index fs i)) None

abbrev pub node_len : Node → Outcome ℕ
node_len = node_fields (λ fs. accepted (length fs))

abbrev pub node_get : ℕ → Node → Outcome (Optional ℕ)
node_get i = node_fields (λ fs. accepted (item_at fs i))

abbrev pub figure_answer : {A : Type 0} → (Figures → A) → List Node → ℕ → Outcome A
figure_answer f ns n = if_known (length ns) n (accepted (f (figures_at (figures_from [] ns) n)))

abbrev pub alignment_answer : Format → List Node → ℕ → Outcome ℕ
alignment_answer format ns n = if_known (length ns) n (alignment (alignment_in format (figures_at (figures_from [] ns) n)))

abbrev pub equal_answer : List Node → ℕ → ℕ → Outcome Bool
equal_answer ns m n = if_known (length ns) m (cond (nat_lt n (15 + length ns)) (accepted (m == n)) (refused 3 (1 ∷ [])))
