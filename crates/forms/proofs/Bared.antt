-- Bare forms: a structure's text is its bare form in a pair of parentheses, and any other text is bare itself.
use Rattle.std.proofs.Common.{◌≡◌, ℕ, suc, ◌+◌, ◌-◌, ◌≤◌, Bool, true, false, List, [], ◌∷◌, ◌++◌, length, take, drop, sym, refl, ap, ◌∙◌, subst, arith}
use mathlib.Core.Option.{Option, none, some}
use Rattle.std.proofs.lemmas.List.{length-append, take_at, take_all}
use Rattle.grammar.specs.Shape.{Text, Shape, basic, array, maybe, dict, structure, printed, printed_all}
use Rattle.grammar.specs.Read.{reading}
use Rattle.grammar.proofs.Prefix.{bare}
use Rattle.grammar.proofs.ReadBack.{reading_printed, long}
use Rattle.grammar.proofs.ReadExact.{read_is}
use Rattle.book.specs.Plain.{text_of}
use Rattle.book.specs.Nodes.{Node, Known, node_shape, shapes_from}
use Rattle.book.specs.Nodes
use Rattle.sheet.specs.declared.sheet.Sheet.{Sheet}
use Rattle.layout.specs.declared.row.TypeRow.{TypeRow}
use Rattle.layout.specs.declared.row.FieldRow.{FieldRow}
use Rattle.layout.specs.declared.row.Kind.{Kind}
use denote.Enum.Bare.{sameb}
use Rattle.layout.specs.contracts.row.Kind.{the_type}
use Rattle.layout.specs.declared.row.Kind.TheVariants.{Blank, Array, Dict, Structure, Maybe}
use Rattle.layout.specs.Tails.{tail_at, row_tails}
use Rattle.layout.specs.Kept.{node_by, nodes_of, fields_in}
use Rattle.forms.specs.Forms.{bare_by, bare_text, Paired}
use Rattle.sheet.specs.Seen.{book_in}
use Rattle.forms.specs.Spans.{Covers}
use Rattle.grammar.specs.Refusals.{accepted}
use Rattle.book.specs.Questions.{string_length_of}
use Rattle.forms.proofs.Known.{Long, told_known}
use Rattle.forms.proofs.Texts.{Row, row_known, row_shape}

-- a text of at most one byte is no structure's
pub bare_short : (w : Text) → length w ≤ 1 → bare_text w ≡ w
unfolding bare_text
bare_short w l = go (reading w) refl
  where
    go : (o : Option Shape) → reading w ≡ o → bare_by o w ≡ w
    go none e = refl
    go (some (basic c h)) e = refl
    go (some (array t)) e = refl
    go (some (maybe t)) e = refl
    go (some (dict k v)) e = refl
    go (some (structure t ts)) e = absurd (omega (arith, ap length (read_is w (structure t ts) e), length-append (printed t) (printed_all ts ++ 41 ∷ []), long t))

bare_printed : (t : Shape) → bare_text (printed t) ≡ bare_by (some t) (printed t)
unfolding bare_text
bare_printed t = ap (λ (o : Option Shape). bare_by o (printed t)) (reading_printed t)

structure_paired : (ss : List Shape) (k : ℕ) (fs : List ℕ) → Known k (Nodes.structure fs) → Paired (printed (node_shape ss (Nodes.structure fs))) true
structure_paired ss k [] h = absurd h
structure_paired ss k (f ∷ fs) h =
    let t : Shape = node_shape ss (Nodes.structure (f ∷ fs)) in
    bare (Nodes.shape_at ss f) (Nodes.shapes_at ss fs) ∙ ap (λ (u : Text). 40 ∷ (u ++ 41 ∷ [])) (sym (bare_printed t))

-- the text of a container, by the kind of its row
abbrev pub is_structure : Kind → Bool
is_structure Blank = false
is_structure Array = false
is_structure Dict = false
is_structure Structure = true
is_structure Maybe = false

-- as the test of a row's kind tells it
pub kind_structure : (k : Kind) → is_structure k ≡ sameb the_type k Structure
kind_structure Blank = refl
kind_structure Array = refl
kind_structure Dict = refl
kind_structure Structure = refl
kind_structure Maybe = refl

kind_paired : (ss : List Shape) (m : ℕ) (F : List FieldRow) (k : Kind) (a b : ℕ) → Known m (node_by F k a b) → Paired (printed (node_shape ss (node_by F k a b))) (is_structure k)
kind_paired ss m F Blank a b h = bare_printed (node_shape ss (Nodes.maybe a))
kind_paired ss m F Array a b h = bare_printed (node_shape ss (Nodes.array a))
kind_paired ss m F Dict a b h = bare_printed (node_shape ss (Nodes.dict a b))
kind_paired ss m F Structure a b h = structure_paired ss m (tail_at (row_tails F) a) h
kind_paired ss m F Maybe a b h = bare_printed (node_shape ss (Nodes.maybe a))

pub row_paired : (s : Sheet) {n : ℕ} {x : TypeRow} → Row s n x → (q : Bool) → is_structure x.kind ≡ q → Paired (text_of (book_in s) n) q
row_paired s {n} {x} r q e =
    subst (Paired (text_of (book_in s) n)) e
    (subst (λ (w : Text). Paired w (is_structure x.kind)) (sym (row_shape s r)) (kind_paired (shapes_from [] (nodes_of s.types s.fields)) (n - 15) (fields_in s.fields) x.kind x.first x.second (row_known s r)))

-- The places of the forms, where l is the length that a sheet answers of n.
module _ (s : Sheet) (n l : ℕ) (h : accepted l ≡ string_length_of (book_in s) n) (fit : l ≤ 65535) where
  abbrev w : Text
  w = text_of (book_in s) n

  told : Long (book_in s) n l
  told = told_known s n l h

  pub whole_places : Covers (book_in s) n w (record { from = 0; count = l })
  whole_places = record {
    known = told.known;
    inside = record { within = omega (arith, told.long); short = omega (arith, told.long) };
    bytes = take_all l w (omega (arith, told.long));
  }

  -- the sheet is the same where it is asked whether n is a structure
  module _ {s' : Sheet} (e : s' ≡ s) where
    here : (q : Bool) → Paired (text_of (book_in s') n) q → Paired w q
    here q p = subst (λ (z : Sheet). Paired (text_of (book_in z) n) q) e p

    pub bare_places : Paired (text_of (book_in s') n) false → Covers (book_in s) n (bare_text w) (record { from = 0; count = l })
    bare_places p = record { known = whole_places.known; inside = whole_places.inside; bytes = whole_places.bytes ∙ sym (here false p) }

    module _ (p : Paired (text_of (book_in s') n) true) where
      two_more : length w ≡ suc (length (bare_text w) + 1)
      two_more = ap length (here true p) ∙ ap suc (length-append (bare_text w) (41 ∷ []))

      pub pair_two : 2 ≤ l
      pair_two = omega (arith, told.long, two_more)

      pub inner_places : Covers (book_in s) n (bare_text w) (record { from = 1; count = l - 2 })
      inner_places = record {
        known = told.known;
        inside = record { within = omega (arith, told.long, pair_two); short = omega (arith, told.long) };
        bytes = ap (λ (t : Text). take (l - 2) (drop 1 t)) (here true p) ∙ take_at (bare_text w) (41 ∷ []) (l - 2) (omega (arith, told.long, two_more));
      }
