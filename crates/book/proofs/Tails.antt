-- Tails of numbers are tails of texts, one for one.
use Rattle.std.proofs.Common.{◌≡◌, ℕ, eqb, List, [], ◌∷◌, ◌++◌, map, length, sym, refl}
use Rattle.grammar.specs.Lists.{Distinct, same_list, add_all, tails}
use Rattle.grammar.specs.Shape.{Text, Shape, printed}
use Rattle.grammar.specs.Parts.{listed, fields}
use Rattle.grammar.specs.Read.{reading}
use Rattle.book.specs.Plain.{same_text, fields_of, tails_from, tails_of}
use Rattle.book.specs.Nodes.{Node, array, maybe, dict, structure, basics, shapes_at, node_shape, Parts, Known}
use Rattle.book.specs.Nodes
use Rattle.grammar.proofs.ReadBack.{reading_printed}
use Rattle.std.proofs.lemmas.Slice.Zip.{AllZip-long}
use Rattle.std.specs.List.{AllZip}
use Rattle.book.proofs.Lists.{add_all2, tails2, same_list2}
use Rattle.book.proofs.NodeShapes.{Num, Row, keep_num}
use Rattle.book.proofs.Sound.{Sound}

pub nums : (ss : List Shape) (ns : List ℕ) → Parts (length ss) ns → AllZip (Num ss) ns (map printed (listed (shapes_at ss ns)))
nums ss [] p = tt
nums ss (n ∷ ns) p = ((p.0, refl), nums ss ns p.1)

pub node_fields_are : (ss : List Shape) (x : Node) → Known (length ss) x → AllZip (Num ss) (Nodes.fields_of x) (map printed (fields (node_shape ss x)))
node_fields_are ss (structure []) k = absurd k
node_fields_are ss (structure (n ∷ ns)) k = ((k.0, refl), nums ss ns k.1)
node_fields_are ss x k = tt

row_fields : (ss : List Shape) (x : Node) (w : Text) → Row ss x w → AllZip (Num ss) (Nodes.fields_of x) (fields_of (reading w))
row_fields ss x w r = rw (r.1, reading_printed (node_shape ss x)) (node_fields_are ss x r.0)

tails_from_is : (ss : List Shape) → Distinct (basics ++ ss) → (T : List (List ℕ)) (U : List (List Text)) (ns : List Node) (ws : List Text)
    → AllZip (AllZip (Num ss)) T U → AllZip (Row ss) ns ws → AllZip (AllZip (Num ss)) (Nodes.tails_from T ns) (tails_from U ws)
tails_from_is ss d T U [] [] a r = a
tails_from_is ss d T U (x ∷ ns) (w ∷ ws) a r =
    tails_from_is ss d (add_all (same_list eqb) T (tails (Nodes.fields_of x))) (add_all (same_list same_text) U (tails (fields_of (reading w)))) ns ws
    (add_all2 (same_list eqb) (same_list same_text) (AllZip (Num ss)) (same_list2 eqb same_text (Num ss) (keep_num ss d))
    T U (tails (Nodes.fields_of x)) (tails (fields_of (reading w))) a (tails2 (Num ss) (Nodes.fields_of x) (fields_of (reading w)) (row_fields ss x w r.0)))
    r.1
tails_from_is ss d T U ns ws a r = absurd r

pub tails_related : (ns : List Node) (ss : List Shape) → Sound ns ss → AllZip (AllZip (Num ss)) (Nodes.tails_of ns) (tails_of (map printed ss))
tails_related ns ss g = tails_from_is ss g.apart [] [] ns (map printed ss) tt g.each

pub tails_count : (ns : List Node) (ss : List Shape) → Sound ns ss → length (Nodes.tails_of ns) ≡ length (tails_of (map printed ss))
tails_count ns ss g = sym (AllZip-long (AllZip (Num ss)) (Nodes.tails_of ns) (tails_of (map printed ss)) (tails_related ns ss g))
