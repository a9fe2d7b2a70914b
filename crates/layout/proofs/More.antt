-- More field rows leave the type rows as they are.
use Rattle.std.proofs.Common.{◌≡◌, ℕ, zero, suc, ◌+◌, ◌<◌, ◌≤◌, List, [], ◌∷◌, length, get_or, take, sym, refl, ap, ◌∙◌, subst, arith}
use native.Mathlib.Decide.{dec_lt}
use Rattle.std.proofs.lemmas.List.{get_or-map, length-map, length-take-le, get_or_past, same_lists}
use Rattle.std.proofs.lemmas.Grind.{common_steps}
use Rattle.grammar.specs.Lists.{place, add}
use Rattle.book.specs.Nodes.{Node, array, maybe, dict, structure, figures_from, Chain}
use Rattle.book.specs.Makers.{add_tails}
use Rattle.layout.specs.declared.row.Kind.{Kind}
use Rattle.layout.specs.declared.row.Kind.TheVariants.{Blank, Array, Dict, Structure, Maybe}
use Rattle.layout.proofs.KindNumbers.{same_kind}
use Rattle.layout.specs.declared.row.TypeRow.{TypeRow}
use Rattle.layout.specs.declared.row.FieldRow.{FieldRow}
use Rattle.book.specs.Rows.{tail_number}
use Rattle.layout.specs.Tails.{same_tail, tail_at, row_tails, FieldsGood}
use Rattle.layout.specs.Laid.{Laid}
use Rattle.book.specs.Rows.{node_key}
use Rattle.layout.specs.Kept.{Good, Sound, nodes_at, nodes, node_by, node_of, type_key, blank_type}
use Rattle.layout.proofs.Places.{tail_tells, place_more}
use Rattle.layout.proofs.Laying.{tails_long, tail_hit, add_grows}

front_1 : (T : List (List ℕ)) (t : List ℕ) (j : ℕ) → j < length T → get_or (add same_tail T t) j [] ≡ get_or T j []
front_1 T t j l = grind (arith, common_steps)

place_1 : (T : List (List ℕ)) (t x : List ℕ) → place same_tail T x < length T → place same_tail (add same_tail T t) x ≡ place same_tail T x
place_1 T t x l = grind (arith, common_steps, place_more same_tail tail_tells T x t l)

grows : (T : List (List ℕ)) (fs : List ℕ) → length T ≤ length (add_tails T fs)
grows T [] = omega arith
grows T (f ∷ fs) = omega (arith, grows T fs, add_grows (add_tails T fs) (f ∷ fs))

front : (T : List (List ℕ)) (fs : List ℕ) (j : ℕ) → j < length T → get_or (add_tails T fs) j [] ≡ get_or T j []
front T [] j l = refl
front T (f ∷ fs) j l = front_1 (add_tails T fs) (f ∷ fs) j (omega (arith, grows T fs)) ∙ front T fs j l

places_front : (T : List (List ℕ)) (fs x : List ℕ) → place same_tail T x < length T → place same_tail (add_tails T fs) x ≡ place same_tail T x
places_front T [] x l = refl
places_front T (f ∷ fs) x l = place_1 (add_tails T fs) (f ∷ fs) x (omega (arith, grows T fs, places_front T fs x l)) ∙ places_front T fs x l

place_front : (T : List (List ℕ)) (fs x : List ℕ) → tail_number T x ≤ length T → tail_number (add_tails T fs) x ≡ tail_number T x
place_front T fs [] l = refl
place_front T fs (y ∷ x) l = ap (λ (u : ℕ). u + 1) (places_front T fs (y ∷ x) (omega arith))

tail_front : (T : List (List ℕ)) (fs : List ℕ) (n : ℕ) → n ≤ length T → tail_at (add_tails T fs) n ≡ tail_at T n
tail_front T fs zero l = refl
tail_front T fs (suc n) l = front T fs n l

in_range : (T : List (List ℕ)) (a : ℕ) → a ≡ tail_number T (tail_at T a) → a ≤ length T
in_range T zero e = omega arith
in_range T (suc k) e = go (dec_lt k (length T))
  where
    go : Dec (k < length T) → suc k ≤ length T
    go (yes y) = y
    go (no n) = let z : suc k ≡ 0 = e ∙ ap (tail_number T) (get_or_past T k [] (omega arith)) in absurd (omega arith)

structure_first : (L : List TypeRow) (F : List FieldRow) → Good L F → (k : ℕ) → k < length L → (get_or L k blank_type).kind ≡ Structure → (get_or L k blank_type).first ≤ length (row_tails F)
structure_first L F g k l e =
    let r : TypeRow = get_or L k blank_type in
    let n : node_of F r ≡ structure (tail_at (row_tails F) r.first) = ap (λ (u : Kind). node_by F u r.first r.second) e in
    in_range (row_tails F) r.first (ap (λ (u : List ℕ). get_or u 1 0) (g.keys k l ∙ ap (node_key (row_tails F)) n))

node_same : (F F' : List FieldRow) (k : Kind) (a b : ℕ) → (k ≡ Structure → tail_at (row_tails F') a ≡ tail_at (row_tails F) a) → node_by F' k a b ≡ node_by F k a b
node_same F F' Blank a b h = refl
node_same F F' Array a b h = refl
node_same F F' Dict a b h = refl
node_same F F' Structure a b h = ap structure (h refl)
node_same F F' Maybe a b h = refl

node_key_same : (F F' : List FieldRow) (x : Node) → ((fs : List ℕ) → x ≡ structure fs → tail_number (row_tails F') fs ≡ tail_number (row_tails F) fs) → node_key (row_tails F') x ≡ node_key (row_tails F) x
node_key_same F F' (array n) h = refl
node_key_same F F' (maybe n) h = refl
node_key_same F F' (dict k v) h = refl
node_key_same F F' (structure fs) h = ap (λ (u : ℕ). 3 ∷ u ∷ length fs ∷ []) (h fs refl)

module _ (L : List TypeRow) (F F' : List FieldRow) (fs : List ℕ) (g : Good L F) (e : row_tails F' ≡ add_tails (row_tails F) fs) where
  row_same : (k : ℕ) → k < length L → node_of F' (get_or L k blank_type) ≡ node_of F (get_or L k blank_type)
  row_same k l = node_same F F' (get_or L k blank_type).kind (get_or L k blank_type).first (get_or L k blank_type).second
      (λ z. ap (λ (U : List (List ℕ)). tail_at U (get_or L k blank_type).first) e ∙ tail_front (row_tails F) fs (get_or L k blank_type).first (structure_first L F g k l z))

  pub nodes_same : nodes F' L ≡ nodes F L
  nodes_same = same_lists (nodes F' L) (nodes F L) (length-map L (node_of F') ∙ sym (length-map L (node_of F)))
      (λ k d h. let l : k < length L = omega (arith, length-map L (node_of F')) in
      get_or-map (node_of F') L k blank_type d l ∙ row_same k l ∙ sym (get_or-map (node_of F) L k blank_type d l))

  key_same : (k : ℕ) → k < length L → node_key (row_tails F') (node_of F (get_or L k blank_type)) ≡ node_key (row_tails F) (node_of F (get_or L k blank_type))
  key_same k l = node_key_same F F' (node_of F (get_or L k blank_type))
      (λ gs z. let q : type_key (get_or L k blank_type) ≡ 3 ∷ tail_number (row_tails F) gs ∷ length gs ∷ [] = g.keys k l ∙ ap (node_key (row_tails F)) z in
      let b : tail_number (row_tails F) gs ≤ length (row_tails F) = subst (λ (u : ℕ). u ≤ length (row_tails F)) (ap (λ (u : List ℕ). get_or u 1 0) q) (structure_first L F g k l (same_kind (get_or L k blank_type).kind Structure (ap (λ (u : List ℕ). get_or u 0 0) q))) in
      ap (λ (U : List (List ℕ)). tail_number U gs) e ∙ place_front (row_tails F) fs gs b)

  pub good_more : FieldsGood F' → Good L F'
  good_more fg = record {
    keys = λ k l. g.keys k l ∙ sym (key_same k l) ∙ ap (node_key (row_tails F')) (sym (row_same k l));
    apart = g.apart;
    figures = g.figures ∙ ap (figures_from []) (sym nodes_same);
    chain = subst (Chain 0) (sym nodes_same) g.chain;
    fields = fg;
  }

pub sound_more : (types : List TypeRow) (tn : ℕ) (fields : List FieldRow) (fn cap : ℕ) (fs : List ℕ) (new : List FieldRow) (n p : ℕ)
    → Sound types tn fields fn → Laid fields fn cap fs 0 new n p → Sound types tn new n
sound_more types tn fields fn cap fs new n p k d = record {
  good = good_more (take tn types) (take fn fields) (take n new) fs k.good d.lists d.ready.good;
  types_blank = k.types_blank;
  fields_blank = d.ready.blank;
}

pub nodes_more : (types : List TypeRow) (tn : ℕ) (fields : List FieldRow) (fn cap : ℕ) (fs : List ℕ) (new : List FieldRow) (n p : ℕ)
    → Sound types tn fields fn → Laid fields fn cap fs 0 new n p → nodes_at types tn new n ≡ nodes_at types tn fields fn
nodes_more types tn fields fn cap fs new n p k d = nodes_same (take tn types) (take fn fields) (take n new) fs k.good d.lists

pub tail_laid : (fields : List FieldRow) (fn cap : ℕ) (fs : List ℕ) (new : List FieldRow) (n p : ℕ)
    → Laid fields fn cap fs 0 new n p → tail_at (row_tails (take n new)) p ≡ fs
tail_laid fields fn cap fs new n p d =
    let hn : n ≤ length new = omega (arith, d.ready.within, d.ready.usable) in
    ap (tail_at (row_tails (take n new))) d.next ∙ tail_hit (row_tails (take n new)) fs (omega (arith, d.next, d.found, tails_long (take n new), length-take-le n new hn))
