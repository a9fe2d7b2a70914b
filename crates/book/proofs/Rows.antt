-- The keys of the rows, from the texts and from the nodes, are the same.
use Rattle.std.proofs.Common.{◌≡◌, ℕ, ◌+◌, eqb, List, [], ◌∷◌, map, length, sym, refl, ap, ◌∙◌, ap₂}
use mathlib.Core.Option.{some}
use Rattle.grammar.specs.Lists.{same_list}
use Rattle.grammar.specs.Shape.{Text, Shape, printed}
use Rattle.grammar.specs.Parts.{fields}
use Rattle.grammar.specs.Read.{reading}
use Rattle.grammar.proofs.ReadBack.{reading_printed}
use Rattle.book.specs.Plain.{same_text, number_of, tails_of}
use Rattle.book.specs.Nodes.{Node, array, maybe, dict, structure, shapes_from, shape_at, node_shape, Part, Known, texts_of}
use Rattle.book.specs.Nodes
use Rattle.book.specs.Agree.{Good}
use Rattle.book.specs.Rows.{text_tail_number, tail_number, shape_key, type_key_of, field_key_of, node_key, tail_key}
use Rattle.std.proofs.lemmas.Slice.Zip.{AllZip-long}
use Rattle.std.specs.List.{AllZip}
use Rattle.book.proofs.Lists.{place2, same_list2, map2}
use Rattle.book.proofs.NodeShapes.{Num, Row, keep_num}
use Rattle.book.proofs.Sound.{Sound}
use Rattle.book.proofs.Interned.{number_is}
use Rattle.book.proofs.Tails.{node_fields_are, tails_related}
use Rattle.book.proofs.Agree.{good_sound}

module _ (ns : List Node) (ss : List Shape) (g : Sound ns ss) where
  -- a number's text has that number
  pub number_at_is : (n : ℕ) → Part (length ss) n → number_of (map printed ss) (printed (shape_at ss n)) ≡ n
  number_at_is n p = number_is ss g.apart n (shape_at ss n) p refl

  tail_number_is : (t : List ℕ) (u : List Text) → AllZip (Num ss) t u → text_tail_number (tails_of (map printed ss)) u ≡ tail_number (Nodes.tails_of ns) t
  tail_number_is [] [] a = refl
  tail_number_is (n ∷ t) (f ∷ u) a = ap (λ (k : ℕ). k + 1) (sym (place2 (same_list eqb) (same_list same_text) (AllZip (Num ss)) (same_list2 eqb same_text (Num ss) (keep_num ss g.apart))
      (Nodes.tails_of ns) (tails_of (map printed ss)) (n ∷ t) (f ∷ u) (tails_related ns ss g) a))
  tail_number_is t u a = absurd a

  tail_key_is : (t : List ℕ) (u : List Text) → AllZip (Num ss) t u → field_key_of (map printed ss) u ≡ tail_key (Nodes.tails_of ns) t
  unfolding field_key_of
  tail_key_is [] [] a = refl
  tail_key_is (n ∷ t) (f ∷ u) a = rw (a.0.1, number_at_is n a.0.0, tail_number_is t u a.1, AllZip-long (Num ss) t u a.1)
  tail_key_is t u a = absurd a

  node_key_is : (x : Node) → Known (length ss) x → shape_key (map printed ss) (some (node_shape ss x)) ≡ node_key (Nodes.tails_of ns) x
  node_key_is (array n) k = rw (number_at_is n k)
  node_key_is (maybe n) k = rw (number_at_is n k)
  node_key_is (dict a b) k = rw (number_at_is a k.0, number_at_is b k.1)
  node_key_is (structure []) k = absurd k
  node_key_is (structure (n ∷ fs)) k =
      let a = node_fields_are ss (structure (n ∷ fs)) k in
      let u : List Text = map printed (fields (node_shape ss (structure (n ∷ fs)))) in
      ap₂ (λ (p q : ℕ). 3 ∷ p ∷ q ∷ []) (tail_number_is (n ∷ fs) u a) (AllZip-long (Num ss) (n ∷ fs) u a)

  row_key : (x : Node) (w : Text) → Row ss x w → type_key_of (map printed ss) w ≡ node_key (Nodes.tails_of ns) x
  unfolding type_key_of
  row_key x w r = ap (λ (z : Text). shape_key (map printed ss) (reading z)) r.1 ∙ ap (shape_key (map printed ss)) (reading_printed (node_shape ss x)) ∙ node_key_is x r.0

pub type_keys : (ns : List Node) → Good ns → map (type_key_of (texts_of ns)) (texts_of ns) ≡ map (node_key (Nodes.tails_of ns)) ns
type_keys ns g = let s = good_sound ns g in map2 (Row (shapes_from [] ns)) (node_key (Nodes.tails_of ns)) (type_key_of (texts_of ns)) (row_key ns (shapes_from [] ns) s) ns (texts_of ns) s.each

pub field_keys : (ns : List Node) → Good ns → map (field_key_of (texts_of ns)) (tails_of (texts_of ns)) ≡ map (tail_key (Nodes.tails_of ns)) (Nodes.tails_of ns)
field_keys ns g = let s = good_sound ns g in
    map2 (AllZip (Num (shapes_from [] ns))) (tail_key (Nodes.tails_of ns)) (field_key_of (texts_of ns)) (tail_key_is ns (shapes_from [] ns) s) (Nodes.tails_of ns) (tails_of (texts_of ns)) (tails_related ns (shapes_from [] ns) s)
