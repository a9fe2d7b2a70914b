-- A structure, filed after its field rows.
use Rattle.std.proofs.Common.{◌≡◌, ℕ, suc, ◌+◌, ◌<◌, ◌≤◌, min, List, [], ◌∷◌, ◌++◌, length, get_or, sym, refl, ap, ◌∙◌, subst, inl, inr, arith, le-ltb, lt-ltb, eq-eqb, ne_eqb}
use Rattle.std.proofs.lemmas.List.{length-take-le, length-map, length-set}
use Rattle.grammar.specs.declared.figures.Figures.{Figures}
use Rattle.grammar.specs.Refusals.{accepted, refused}
use Rattle.rows.specs.declared.RowList.{RowList}
use Rattle.rows.specs.Found.{Refused, Place}
use Rattle.book.specs.Plain.{Answer}
use Rattle.book.specs.Nodes.{Node, structure, node_figures, figures_from, size_of, tails_of, Parts, Known}
use Rattle.book.specs.Makers.{placed, add_tails, kept, structure_placed, structure_call, unknown_at, unit_at}
use Rattle.layout.specs.declared.row.Kind.TheVariants.{Structure}
use Rattle.layout.specs.declared.row.TypeRow.{TypeRow}
use Rattle.layout.specs.declared.row.FieldRow.{FieldRow}
use Rattle.sheet.specs.declared.sheet.Sheet.{Sheet}
use Rattle.layout.specs.Tails.{blank_field}
use Rattle.layout.specs.Laid.{Ready, Laid, NoRoom}
use Rattle.book.specs.Rows.{node_key}
use Rattle.layout.specs.Kept.{Sound, Fit, nodes_of, tails_in, types_in, fields_in, node_of, type_key}
use Rattle.layout.specs.Grown.{Cut, Unchanged}
use Rattle.layout.specs.Made.{Made}
use Rattle.layout.specs.Structured.{Whole, AllParts, Structured}
use Rattle.layout.proofs.Firsts.{all_known, all_more}
use Rattle.layout.proofs.Laying.{tails_long}
use Rattle.layout.proofs.More.{sound_more, nodes_more, tail_laid}
use Rattle.layout.proofs.Tailed.{tails_push, tails_held}
use Rattle.layout.proofs.Step.{Told, some_node, nodes_added, nodes_held, node_held, placed_sound, placed_told, refused_told, nodes_long}
use Rattle.layout.proofs.Undo.{same_refl, unchanged_refl, grown_by, grown_laid, grew_same, undone, kept_same, nodes_same, tails_same}

pub ready_in : (t : RowList TypeRow) (f : RowList FieldRow) → Whole t f → Ready f.rows.now f.count f.cap
ready_in t f w = record { good = w.kept.sound.good.fields; within = w.fields_within; usable = w.fields_usable; most = w.fields_most; blank = w.kept.sound.fields_blank }

parts_of_are : (m : ℕ) (fs : List ℕ) → AllParts m fs → Parts m fs
parts_of_are m [] p = tt
parts_of_are m (n ∷ ns) p = (p 0 (omega arith), parts_of_are m ns (λ i l. p (suc i) (omega arith)))

known_structure : (m : ℕ) (fs : List ℕ) → AllParts m fs → 0 < length fs → Known m (structure fs)
known_structure m [] p h = omega arith
known_structure m (n ∷ ns) p h = parts_of_are m (n ∷ ns) p

pair : {A B : Type 0} (x : A × B) (a : A) (b : B) → a ≡ x.0 → b ≡ x.1 → x ≡ (a, b)
pair x a b p q = sym (λ i. (p i, q i))

-- what the book says of a structure whose tails have room
said : (cap fcap : ℕ) (b : List Node) (T : List (List ℕ)) (fs : List ℕ) (r : Answer) (b' : List Node) → length (add_tails T fs) ≤ fcap → size_of b (structure fs) ≤ 65535
    → placed cap b (structure fs) ≡ (r, b') → structure_placed cap fcap b T fs ≡ kept r b b' T (add_tails T fs)
said cap fcap b T fs r b' h s e =
    rw (le-ltb fcap (length (add_tails T fs)) h, le-ltb 65535 (size_of b (structure fs)) s) (ap (λ (x : Answer × List Node). kept x.0 b x.1 T (add_tails T fs)) e)

made_by : (t : RowList TypeRow) (f : RowList FieldRow) (t' : RowList TypeRow) (f' : RowList FieldRow) (r : Answer) (x y : Answer × List Node × List (List ℕ)) → x ≡ y → Made t f t' f' r y → Made t f t' f' r x
made_by t f t' f' r x y e h = subst (λ (z : Answer × List Node × List (List ℕ)). Made t f t' f' r z) (sym e) h

-- no room for the tails
module _ (t : RowList TypeRow) (f f' : RowList FieldRow) (fs : List ℕ) (w : Whole t f) (e : f'.cap ≡ f.cap)
    (d : NoRoom f.rows.now f.count f.cap fs f'.rows.now f'.count) where
  as_was : Unchanged t f t f'
  as_was = record { types = same_refl t; fields = record { rows = d.rows; count = d.count; cap = e } }

  pub made_no_room : Made t f t f' (refused 8 []) (structure_placed t.cap f.cap (nodes_of t f) (tails_in f) fs)
  made_no_room = made_by t f t f' (refused 8 []) (structure_placed t.cap f.cap (nodes_of t f) (tails_in f) fs) (refused 8 [], nodes_of t f, tails_in f)
      (rw (lt-ltb f.cap (length (add_tails (tails_in f) fs)) d.full))
      (record { answer = refl; nodes = nodes_same t f t f' as_was; tails = tails_same f f' as_was.fields; grew = grew_same t f t f' as_was; unchanged = as_was })

  pub whole_no_room : Whole t f'
  whole_no_room = record {
    types_within = w.types_within;
    types_usable = w.types_usable;
    types_most = w.types_most;
    fields_within = omega (arith, d.count, w.fields_within);
    fields_usable = omega (arith, ap length d.rows, w.fields_usable);
    fields_most = omega (arith, w.fields_most);
    kept = kept_same t f t f' as_was w.kept;
  }

-- the row of a structure whose field rows are laid
abbrev pub row_for : List ℕ → ℕ → Figures → TypeRow
row_for fs p whole = record { kind = Structure; first = p; second = length fs; figures = whole }

module _ (t : RowList TypeRow) (f f' : RowList FieldRow) (fs : List ℕ) (whole : Figures) (p : ℕ) (w : Whole t f) (s : Structured t f fs whole) (e : f'.cap ≡ f.cap)
    (d : Laid f.rows.now f.count f.cap fs 0 f'.rows.now f'.count p) where
  sound : Sound t.rows.now t.count f'.rows.now f'.count
  sound = sound_more t.rows.now t.count f.rows.now f.count f.cap fs f'.rows.now f'.count p w.kept.sound d

  same_nodes : nodes_of t f' ≡ nodes_of t f
  same_nodes = nodes_more t.rows.now t.count f.rows.now f.count f.cap fs f'.rows.now f'.count p w.kept.sound d

  is_structure : node_of (fields_in f') (row_for fs p whole) ≡ structure fs
  is_structure = ap structure (tail_laid f.rows.now f.count f.cap fs f'.rows.now f'.count p d)

  fit : Fit (types_in t) (fields_in f') (row_for fs p whole)
  fit = record {
    coded = ap (λ (u : ℕ). 3 ∷ u ∷ length fs ∷ []) d.next ∙ sym (ap (node_key (tails_in f')) is_structure);
    figures = s.figures ∙ ap (λ (b : List Node). node_figures (figures_from [] b) (structure fs)) (sym same_nodes) ∙ ap (node_figures (figures_from [] (nodes_of t f'))) (sym is_structure);
    known = subst (Known (length (types_in t))) (sym is_structure)
        (known_structure (length (types_in t)) fs (subst (λ (m : ℕ). AllParts m fs) (length-map (types_in t) (node_of (fields_in f))) s.parts) s.some);
  }

  room : length (add_tails (tails_in f) fs) ≤ f.cap
  room =
      let hn : f'.count ≤ length f'.rows.now = omega (arith, d.ready.within, d.ready.usable) in
      omega (arith, ap length d.lists, tails_long (fields_in f'), length-take-le f'.count f'.rows.now hn, d.ready.within)

  size : size_of (nodes_of t f) (structure fs) ≤ 65535
  size = subst (λ (x : Figures). x.length ≤ 65535) s.figures s.short

  module _ (t' : RowList TypeRow) (et : t'.cap ≡ t.cap) where
    module _ (i : ℕ) (q : Place type_key t.rows.now t.count t.cap (row_for fs p whole) t'.rows.now t'.count i) where
      h : t.count ≤ length t.rows.now
      h = omega (arith, w.types_within, w.types_usable)

      told : Told (accepted (15 + i)) (nodes_of t' f') (placed t.cap (nodes_of t f) (structure fs))
      told =
          subst (λ (x : Node). Told (accepted (15 + i)) (nodes_of t' f') (placed t.cap (nodes_of t f) x)) is_structure
          (subst (λ (b : List Node). Told (accepted (15 + i)) (nodes_of t' f') (placed t.cap b (node_of (fields_in f') (row_for fs p whole)))) same_nodes
          (placed_told t.rows.now t.count f'.rows.now f'.count t.cap (row_for fs p whole) t'.rows.now t'.count i h sound fit q))

      pub made_filed : Made t f t' f' (accepted (15 + i)) (structure_placed t.cap f.cap (nodes_of t f) (tails_in f) fs)
      made_filed =
          made_by t f t' f' (accepted (15 + i)) (structure_placed t.cap f.cap (nodes_of t f) (tails_in f) fs) (accepted (15 + i), nodes_of t' f', add_tails (tails_in f) fs)
          (said t.cap f.cap (nodes_of t f) (tails_in f) fs (accepted (15 + i)) (nodes_of t' f') room size (pair (placed t.cap (nodes_of t f) (structure fs)) (accepted (15 + i)) (nodes_of t' f') told.answer told.nodes))
          (record {
            answer = refl;
            nodes = refl;
            tails = d.lists;
            grew = record { types = grown_by type_key t t' (row_for fs p whole) i h et q; fields = grown_laid f f' fs p e d };
            unchanged = tt;
          })

      all_tails : Place type_key t.rows.now t.count t.cap (row_for fs p whole) t'.rows.now t'.count i → add_tails (tails_of (nodes_of t f)) fs ≡ tails_of (nodes_of t' f')
      all_tails (inl q) =
          let b = nodes_long t.rows.now t.count f.rows.now f.count h in
          tails_held (nodes_of t f) fs i some_node (omega (arith, q.below))
          (ap (λ (b : List Node). get_or b i some_node) (sym same_nodes)
          ∙ node_held t.rows.now t.count f'.rows.now f'.count t.cap (row_for fs p whole) t'.rows.now t'.count i h sound fit q ∙ is_structure)
          ∙ ap tails_of (sym same_nodes ∙ sym (nodes_held t.rows.now t.count f'.rows.now f'.count t.cap (row_for fs p whole) t'.rows.now t'.count i h sound fit q))
      all_tails (inr q) =
          sym (ap tails_of (nodes_added t.rows.now t.count f'.rows.now f'.count t.cap (row_for fs p whole) t'.rows.now t'.count i h sound fit q
          ∙ ap (λ (b : List Node). b ++ node_of (fields_in f') (row_for fs p whole) ∷ []) same_nodes
          ∙ ap (λ (x : Node). nodes_of t f ++ x ∷ []) is_structure)
          ∙ tails_push (nodes_of t f) (structure fs))

      bounds : Place type_key t.rows.now t.count t.cap (row_for fs p whole) t'.rows.now t'.count i → (t'.count ≤ t.cap) × (t.cap ≤ length t'.rows.now)
      bounds (inl q) = (omega (arith, q.count, w.types_within), omega (arith, ap length q.rows, w.types_usable))
      bounds (inr q) = (omega (arith, q.count, q.room), omega (arith, ap length q.rows, length-set t.rows.now (min t.count (length t.rows.now)) (row_for fs p whole), w.types_usable))

      pub whole_filed : Whole t' f'
      whole_filed = record {
        types_within = omega (arith, (bounds q).0);
        types_usable = omega (arith, (bounds q).1);
        types_most = omega (arith, w.types_most);
        fields_within = omega (arith, d.ready.within);
        fields_usable = omega (arith, d.ready.usable);
        fields_most = omega (arith, w.fields_most);
        kept = record {
          sound = placed_sound t.rows.now t.count f'.rows.now f'.count t.cap (row_for fs p whole) t'.rows.now t'.count i h sound fit q;
          tails = d.lists ∙ ap (λ (T : List (List ℕ)). add_tails T fs) w.kept.tails ∙ all_tails q;
        };
      }

    -- no room for the structure's own row: the field rows are cut off again
    module _ (f'' : RowList FieldRow) (m : ℕ) (em : m ≡ f.count) (q : Refused type_key t.rows.now t.count t.cap (row_for fs p whole) t'.rows.now t'.count) (c : Cut blank_field m f' f'') where
      back : Unchanged t f t' f''
      back = record {
        types = record { rows = q.rows; count = q.count; cap = et };
        fields = undone blank_field m f f' f'' (grown_laid f f' fs p e d) (sym em) (omega (arith, w.fields_within, w.fields_usable)) w.kept.sound.fields_blank d.ready.blank c;
      }

      told_full : Told (refused 8 []) (nodes_of t' f') (placed t.cap (nodes_of t f) (structure fs))
      told_full =
          subst (λ (x : Node). Told (refused 8 []) (nodes_of t' f') (placed t.cap (nodes_of t f) x)) is_structure
          (subst (λ (b : List Node). Told (refused 8 []) (nodes_of t' f') (placed t.cap b (node_of (fields_in f') (row_for fs p whole)))) same_nodes
          (refused_told t.rows.now t.count f'.rows.now f'.count t.cap (row_for fs p whole) t'.rows.now t'.count 0 (omega (arith, w.types_within, w.types_usable)) sound fit w.types_usable q))

      pub made_full : Made t f t' f'' (refused 8 []) (structure_placed t.cap f.cap (nodes_of t f) (tails_in f) fs)
      made_full =
          made_by t f t' f'' (refused 8 []) (structure_placed t.cap f.cap (nodes_of t f) (tails_in f) fs) (refused 8 [], nodes_of t f, tails_in f)
          (said t.cap f.cap (nodes_of t f) (tails_in f) fs (refused 8 []) (nodes_of t' f') room size (pair (placed t.cap (nodes_of t f) (structure fs)) (refused 8 []) (nodes_of t' f') told_full.answer told_full.nodes))
          (record { answer = refl; nodes = nodes_same t f t' f'' back; tails = tails_same f f'' back.fields; grew = grew_same t f t' f'' back; unchanged = back })

      pub whole_full : Whole t' f''
      whole_full = record {
        types_within = omega (arith, q.count, w.types_within);
        types_usable = omega (arith, ap length q.rows, w.types_usable);
        types_most = omega (arith, w.types_most);
        fields_within = omega (arith, back.fields.count, back.fields.cap, w.fields_within);
        fields_usable = omega (arith, ap length back.fields.rows, back.fields.cap, w.fields_usable);
        fields_most = omega (arith, back.fields.cap, w.fields_most);
        kept = kept_same t f t' f'' back w.kept;
      }

-- The call of `structure`, way by way.
module _ (cap fcap : ℕ) (b : List Node) (T : List (List ℕ)) (fs : List ℕ) where
  pub structure_unknown : unknown_at (15 + length b) fs < length fs → structure_call cap fcap b T fs ≡ (refused 3 (unknown_at (15 + length b) fs ∷ []), b, T)
  structure_unknown h = rw (lt-ltb (unknown_at (15 + length b) fs) (length fs) h)

  pub structure_unit : length fs ≤ unknown_at (15 + length b) fs → unit_at fs < length fs → structure_call cap fcap b T fs ≡ (refused 4 (unit_at fs ∷ []), b, T)
  structure_unit h g = rw (le-ltb (unknown_at (15 + length b) fs) (length fs) h, lt-ltb (unit_at fs) (length fs) g)

  pub structure_none : length fs ≤ unknown_at (15 + length b) fs → length fs ≤ unit_at fs → length fs ≡ 0 → structure_call cap fcap b T fs ≡ (refused 5 [], b, T)
  structure_none h g z = rw (le-ltb (unknown_at (15 + length b) fs) (length fs) h, le-ltb (unit_at fs) (length fs) g, eq-eqb (length fs) 0 z)

  pub structure_long : length fs ≤ unknown_at (15 + length b) fs → length fs ≤ unit_at fs → (length fs ≡ 0 → ⊥) → 65535 < size_of b (structure fs) → structure_call cap fcap b T fs ≡ (refused 7 [], b, T)
  structure_long h g z y = rw (le-ltb (unknown_at (15 + length b) fs) (length fs) h, le-ltb (unit_at fs) (length fs) g, ne_eqb (length fs) 0 z, lt-ltb 65535 (size_of b (structure fs)) y)

  pub structure_good : length fs ≤ unknown_at (15 + length b) fs → length fs ≤ unit_at fs → (length fs ≡ 0 → ⊥) → size_of b (structure fs) ≤ 65535 → structure_call cap fcap b T fs ≡ structure_placed cap fcap b T fs
  structure_good h g z y = rw (le-ltb (unknown_at (15 + length b) fs) (length fs) h, le-ltb (unit_at fs) (length fs) g, ne_eqb (length fs) 0 z, le-ltb 65535 (size_of b (structure fs)) y)

-- a refusal leaves the sheet as it was
pub refused_still : (s s' : Sheet) (e : ℕ) (vs : List ℕ) (x : Answer × List Node × List (List ℕ)) → s' ≡ s → x ≡ (refused e vs, nodes_of s.types s.fields, tails_in s.fields)
    → Made s.types s.fields s'.types s'.fields (refused e vs) x
refused_still s s' e vs x q p =
    subst (λ (u : Sheet). Made s.types s.fields u.types u.fields (refused e vs) x) (sym q)
    (made_by s.types s.fields s.types s.fields (refused e vs) x (refused e vs, nodes_of s.types s.fields, tails_in s.fields) p
    (record {
      answer = refl;
      nodes = refl;
      tails = refl;
      grew = grew_same s.types s.fields s.types s.fields (unchanged_refl s.types s.fields);
      unchanged = unchanged_refl s.types s.fields;
    }))

pub structure_as : (s s' : Sheet) (t : RowList TypeRow) (f : RowList FieldRow) (fs : List ℕ) (r : Answer) (x : Answer × List Node × List (List ℕ)) → s' ≡ s
    → x ≡ structure_placed s.types.cap s.fields.cap (nodes_of s.types s.fields) (tails_in s.fields) fs
    → Made s'.types s'.fields t f r (structure_placed s'.types.cap s'.fields.cap (nodes_of s'.types s'.fields) (tails_in s'.fields) fs)
    → Made s.types s.fields t f r x
structure_as s s' t f fs r x q p h =
    made_by s.types s.fields t f r x (structure_placed s.types.cap s.fields.cap (nodes_of s.types s.fields) (tails_in s.fields) fs) p
    (subst (λ (u : Sheet). Made u.types u.fields t f r (structure_placed u.types.cap u.fields.cap (nodes_of u.types u.fields) (tails_in u.fields) fs)) q h)

-- numbers of which none is unknown and none is Unit
pub known_by : (b : List Node) (k : ℕ) (fs : List ℕ) → k ≡ 15 + length b → length fs ≤ unknown_at k fs → length fs ≤ unknown_at (15 + length b) fs
known_by b k fs e h = subst (λ (n : ℕ). length fs ≤ unknown_at n fs) e h

pub parts_from : (b : List Node) (fs : List ℕ) → length fs ≤ unknown_at (15 + length b) fs → length fs ≤ unit_at fs → AllParts (length b) fs
parts_from b fs h g = λ i l. (all_more fs g i l, all_known (15 + length b) fs h i l)
