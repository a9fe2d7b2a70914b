-- A type row that is looked for, and added if it is new.
use Rattle.std.proofs.Common.{◌≡◌, ℕ, ◌+◌, ◌<◌, ◌≤◌, min, List, [], ◌∷◌, ◌++◌, length, get_or, take, set, sym, ap, ◌∙◌, subst, inl, inr, arith, le-ltb, lt-ltb}
use Rattle.std.proofs.lemmas.List.{take_more_set, get_or-map, get_or-take, map_push, length-take-le, length-map, get_or-set_other}
use Rattle.grammar.specs.Lists.{place}
use Rattle.grammar.specs.Refusals.{accepted, refused}
use Rattle.rows.specs.Found.{Held, Added, Refused, Place}
use Rattle.book.specs.Plain.{Answer}
use Rattle.book.specs.Nodes.{Node, same_node, fields_of, tails_of}
use Rattle.book.specs.Makers.{placed, add_tails}
use Rattle.layout.specs.declared.row.Kind.{Kind}
use Rattle.layout.proofs.KindNumbers.{same_kind}
use Rattle.layout.specs.declared.row.TypeRow.{TypeRow}
use Rattle.layout.specs.declared.row.FieldRow.{FieldRow}
use Rattle.book.specs.Rows.{node_key}
use Rattle.layout.specs.Tails.{row_tails}
use Rattle.layout.specs.Kept.{Good, Sound, Fit, nodes_at, nodes, node_by, node_of, type_key, blank_type}
use Rattle.book.proofs.NodeShapes.{same_nodes}
use Rattle.layout.proofs.Places.{place_at, place_none, absent_in}
use Rattle.layout.proofs.Keep.{good_push}
use Rattle.layout.proofs.Tailed.{tails_push}

node_of_key : (F : List FieldRow) (a r : TypeRow) → type_key a ≡ type_key r → node_of F a ≡ node_of F r
node_of_key F a r e =
    ap (λ (k : Kind). node_by F k a.first a.second) (same_kind a.kind r.kind (ap (λ (k : List ℕ). get_or k 0 0) e))
    ∙ ap (λ (k : List ℕ). node_by F r.kind (get_or k 1 0) (get_or k 2 0)) e

pub node_at : (L : List TypeRow) (F : List FieldRow) (j : ℕ) (d : Node) → j < length L → get_or (nodes F L) j d ≡ node_of F (get_or L j blank_type)
node_at L F j d l = get_or-map (node_of F) L j blank_type d l

-- any container, where a default is asked for
abbrev pub some_node : Node
some_node = node_of [] blank_type

key_of_node : (L : List TypeRow) (F : List FieldRow) (r : TypeRow) → Good L F → type_key r ≡ node_key (row_tails F) (node_of F r) → (j : ℕ) → j < length L
    → get_or (nodes F L) j some_node ≡ node_of F r → type_key (get_or L j blank_type) ≡ type_key r
key_of_node L F r g coded j l e = g.keys j l ∙ ap (node_key (row_tails F)) (sym (node_at L F j some_node l) ∙ e) ∙ sym coded

place_held : (L : List TypeRow) (F : List FieldRow) (r : TypeRow) → Good L F → type_key r ≡ node_key (row_tails F) (node_of F r) → (i : ℕ) → i < length L
    → type_key (get_or L i blank_type) ≡ type_key r → place same_node (nodes F L) (node_of F r) ≡ i
place_held L F r g coded i l e =
    place_at same_node same_nodes some_node (nodes F L) (node_of F r) i (omega (arith, length-map L (node_of F)))
    (node_at L F i some_node l ∙ node_of_key F (get_or L i blank_type) r e)
    (λ j h f. g.apart j i h l (key_of_node L F r g coded j (omega arith) f ∙ sym e))

place_new : (L : List TypeRow) (F : List FieldRow) (r : TypeRow) → Good L F → type_key r ≡ node_key (row_tails F) (node_of F r)
    → ((k : ℕ) → k < length L → type_key (get_or L k blank_type) ≡ type_key r → ⊥) → place same_node (nodes F L) (node_of F r) ≡ length (nodes F L)
place_new L F r g coded absent =
    place_none same_node same_nodes some_node (nodes F L) (node_of F r)
    (λ j h f. let l : j < length L = omega (arith, length-map L (node_of F)) in absent j l (key_of_node L F r g coded j l f))

placed_held : (cap : ℕ) (b : List Node) (x : Node) (i : ℕ) → place same_node b x ≡ i → i < length b → placed cap b x ≡ (accepted (15 + i), b)
unfolding placed
placed_held cap b x i e l = rw (e, lt-ltb i (length b) l)

placed_new : (cap : ℕ) (b : List Node) (x : Node) → place same_node b x ≡ length b → length b < cap → placed cap b x ≡ (accepted (15 + length b), b ++ x ∷ [])
unfolding placed
placed_new cap b x e l = rw (e, le-ltb (length b) (length b) (omega arith), lt-ltb (length b) cap l)

placed_full : (cap : ℕ) (b : List Node) (x : Node) → place same_node b x ≡ length b → cap ≤ length b → placed cap b x ≡ (refused 8 [], b)
unfolding placed
placed_full cap b x e l = rw (e, le-ltb (length b) (length b) (omega arith), le-ltb (length b) cap l)

-- an answer and the book after it, as they are said
pub record Told (r : Answer) (b : List Node) (said : Answer × List Node) : Type 0 where
  pub answer : r ≡ said.0
  pub nodes : b ≡ said.1

pub told_by : (r : Answer) (b b' : List Node) (said : Answer × List Node) → said ≡ (r, b') → b ≡ b' → Told r b said
told_by r b b' said e f = record { answer = sym (ap (λ (p : Answer × List Node). p.0) e); nodes = f ∙ sym (ap (λ (p : Answer × List Node). p.1) e) }

-- One row more, after the last in use.
module _ (types : List TypeRow) (tn : ℕ) (fields : List FieldRow) (fn cap : ℕ) (r : TypeRow) (new : List TypeRow) (m i : ℕ)
    (h : tn ≤ length types) (k : Sound types tn fields fn) (fit : Fit (take tn types) (take fn fields) r) where
  long : length (nodes_at types tn fields fn) ≡ tn
  long = length-map (take tn types) (node_of (take fn fields)) ∙ length-take-le tn types h

  one_more : Added type_key types tn cap r new m i → take m new ≡ take tn types ++ r ∷ []
  one_more p =
      let e : min tn (length types) ≡ tn = omega arith in
      let l : tn < length types = omega (arith, p.room) in
      ap (take m) (p.rows ∙ ap (λ (n : ℕ). set types n r) e) ∙ ap (λ (n : ℕ). take n (set types tn r)) (p.count ∙ ap (λ (n : ℕ). n + 1) e) ∙ take_more_set types tn r l

  pub nodes_added : Added type_key types tn cap r new m i → nodes_at new m fields fn ≡ nodes_at types tn fields fn ++ node_of (take fn fields) r ∷ []
  nodes_added p = ap (nodes (take fn fields)) (one_more p) ∙ map_push (node_of (take fn fields)) (take tn types) r

  pub nodes_held : Held type_key types tn cap r new m i → nodes_at new m fields fn ≡ nodes_at types tn fields fn
  nodes_held p = rw (p.rows, p.count)

  pub node_held : Held type_key types tn cap r new m i → get_or (nodes_at types tn fields fn) i some_node ≡ node_of (take fn fields) r
  node_held p =
      let lt : i < tn = omega (arith, p.below) in
      node_at (take tn types) (take fn fields) i some_node (omega (arith, length-take-le tn types h))
      ∙ node_of_key (take fn fields) (get_or (take tn types) i blank_type) r (ap type_key (get_or-take tn types i blank_type lt) ∙ p.same blank_type)

  pub placed_sound : Place type_key types tn cap r new m i → Sound new m fields fn
  placed_sound (inl p) = rw (p.rows, p.count) k
  placed_sound (inr p) =
      let e : min tn (length types) ≡ tn = omega arith in
      let er : new ≡ set types tn r = p.rows ∙ ap (λ (n : ℕ). set types n r) e in
      record {
        good = subst (λ (L : List TypeRow). Good L (take fn fields)) (sym (one_more p))
            (good_push (take tn types) (take fn fields) r k.good fit.coded (absent_in type_key blank_type types tn (type_key r) h p.absent) fit.figures fit.known);
        types_blank = λ j g. ap (λ (x : List TypeRow). get_or x j blank_type) er ∙ get_or-set_other types tn j r blank_type (omega (arith, p.count)) ∙ k.types_blank j (omega (arith, p.count));
        fields_blank = k.fields_blank;
      }

  pub placed_told : Place type_key types tn cap r new m i → Told (accepted (15 + i)) (nodes_at new m fields fn) (placed cap (nodes_at types tn fields fn) (node_of (take fn fields) r))
  placed_told (inl p) =
      let lt : i < tn = omega (arith, p.below) in
      told_by _ _ (nodes_at types tn fields fn) _
      (placed_held cap _ _ i (place_held (take tn types) (take fn fields) r k.good fit.coded i (omega (arith, length-take-le tn types h)) (ap type_key (get_or-take tn types i blank_type lt) ∙ p.same blank_type)) (omega (arith, long)))
      (nodes_held p)
  placed_told (inr p) =
      let ei : i ≡ length (nodes_at types tn fields fn) = omega (arith, p.place, long) in
      told_by _ _ (nodes_at types tn fields fn ++ node_of (take fn fields) r ∷ []) _
      (placed_new cap _ _ (place_new (take tn types) (take fn fields) r k.good fit.coded (absent_in type_key blank_type types tn (type_key r) h p.absent)) (omega (arith, p.room, long)) ∙ rw ei)
      (nodes_added p)

  -- the tails of all structures after
  pub placed_tails : Place type_key types tn cap r new m i → fields_of (node_of (take fn fields) r) ≡ [] → tails_of (nodes_at new m fields fn) ≡ tails_of (nodes_at types tn fields fn)
  placed_tails (inl p) e = ap tails_of (nodes_held p)
  placed_tails (inr p) e = ap tails_of (nodes_added p) ∙ tails_push (nodes_at types tn fields fn) (node_of (take fn fields) r) ∙ ap (add_tails (tails_of (nodes_at types tn fields fn))) e

  pub refused_told : cap ≤ length types → Refused type_key types tn cap r new m
      → Told (refused 8 []) (nodes_at new m fields fn) (placed cap (nodes_at types tn fields fn) (node_of (take fn fields) r))
  refused_told hc p =
      told_by _ _ (nodes_at types tn fields fn) _
      (placed_full cap _ _ (place_new (take tn types) (take fn fields) r k.good fit.coded (absent_in type_key blank_type types tn (type_key r) h p.absent)) (omega (arith, p.full, long)))
      (rw (p.rows, p.count))

pub nodes_long : (types : List TypeRow) (tn : ℕ) (fields : List FieldRow) (fn : ℕ) → tn ≤ length types → length (nodes_at types tn fields fn) ≡ tn
nodes_long types tn fields fn h = length-map (take tn types) (node_of (take fn fields)) ∙ length-take-le tn types h
