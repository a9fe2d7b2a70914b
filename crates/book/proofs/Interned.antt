-- What entering a container, or all of a tree, comes to.
use Rattle.std.proofs.Common.{◌≡◌, ℕ, zero, suc, ◌+◌, ◌-◌, ◌<◌, true, false, eqb, ◌⊎◌, List, [], ◌∷◌, ◌++◌, map, length, get_or, sym, refl, ap, ◌∙◌, subst, ap₂, inl, inr, append_assoc, append-nil, arith, length-append}
use mathlib.Core.List.{map-append}
use lib.ListN.{length-map}
use Rattle.std.proofs.lemmas.List.{get_or_append_left, map_push, length_push, get_or-map, get_or_push}
use Rattle.std.proofs.lemmas.Bool.{cases_Bool}
use Rattle.grammar.specs.Lists.{In, Distinct, has, place, add, add_all}
use Rattle.grammar.specs.Shape.{Text, is_basic, basic_codes, Shape, Shapes, basic, nil, more, printed}
use Rattle.grammar.specs.Parts.{containers, containers_all}
use Rattle.book.specs.Plain.{same_text, single, known, number_of, text_of}
use Rattle.book.specs.Nodes.{Node, array, maybe, dict, structure, same_node, enter, intern, intern_all, basics, byte, shape_at, shapes_at, node_shape, Part, Parts, Known}
use Rattle.grammar.proofs.ReadBack.{printed_inj, head}
use Rattle.book.proofs.Lists.{numbers, has_in, not_in, add_old, add_new, add_all_append, place_in, place_out, place_at, map_in, place2}
use Rattle.book.proofs.NodeShapes.{same_texts, same_nodes, Row, keep_node, basics_long, basics_count, at_more, at_shape}
use Rattle.book.proofs.Sound.{Sound, as_many, row, has_same, in_text, pushed}

pub record Made (ss : List Shape) (s : Shape) (after : List Text) (r : ℕ × List Node) : Type 0 where
  pub new : List Shape
  pub rest : List Shape
  pub longer : new ≡ ss ++ rest
  pub sound : Sound r.1 new
  pub part : Part (length new) r.0
  pub is : shape_at new r.0 ≡ s
  pub texts : map printed new ≡ after

pub entered : (ns : List Node) (ss : List Shape) → Sound ns ss → (x : Node) → Known (length ss) x
    → Made ss (node_shape ss x) (add same_text (map printed ss) (printed (node_shape ss x))) (enter ns x)
entered ns ss g x k = go (cases_Bool (has same_node ns x))
  where
    same : place same_node ns x ≡ place same_text (map printed ss) (printed (node_shape ss x))
    same = place2 same_node same_text (Row ss) (keep_node ss g.apart) ns (map printed ss) x (printed (node_shape ss x)) g.each (row ns ss g x k)

    go : (has same_node ns x ≡ true) ⊎ (has same_node ns x ≡ false) → Made ss (node_shape ss x) (add same_text (map printed ss) (printed (node_shape ss x))) (enter ns x)
    go (inl h) =
        let i = has_in same_nodes ns x h in
        let j = in_text ns ss g x k i in
        let p = place_in same_texts (map printed ss) (printed (node_shape ss x)) [] j in
        let l : place same_node ns x < length ss = omega (arith, same, p.0, length-map ss printed) in
        record {
          new = ss;
          rest = [];
          longer = sym (append-nil ss);
          sound = subst (λ (b : List Node). Sound b ss) (sym (add_old same_nodes ns x i)) g;
          part = omega arith;
          is = at_shape ss (15 + place same_node ns x) (omega arith)
              ∙ ap (λ (z : ℕ). get_or ss z byte) (omega arith)
              ∙ printed_inj (get_or ss (place same_node ns x) byte) (node_shape ss x) (sym (get_or-map printed ss (place same_node ns x) byte [] l) ∙ ap (λ (z : ℕ). get_or (map printed ss) z []) same ∙ p.1);
          texts = sym (add_old same_texts (map printed ss) (printed (node_shape ss x)) j);
        }
    go (inr h) =
        let n = not_in same_nodes ns x h in
        let m : In (printed (node_shape ss x)) (map printed ss) → ⊥ = not_in same_texts (map printed ss) (printed (node_shape ss x)) (sym (has_same ns ss g x k) ∙ h) in
        let l : place same_node ns x ≡ length ss = place_out same_nodes ns x n ∙ as_many ns ss g in
        let e = length_push ss (node_shape ss x) in
        record {
          new = ss ++ node_shape ss x ∷ [];
          rest = node_shape ss x ∷ [];
          longer = refl;
          sound = subst (λ (b : List Node). Sound b (ss ++ node_shape ss x ∷ [])) (sym (add_new same_nodes ns x n)) (pushed ns ss g x k n);
          part = omega arith;
          is = at_shape (ss ++ node_shape ss x ∷ []) (15 + place same_node ns x) (omega arith) ∙ get_or_push ss (node_shape ss x) byte (15 + place same_node ns x - 15) (omega arith);
          texts = map_push printed ss (node_shape ss x) ∙ sym (add_new same_texts (map printed ss) (printed (node_shape ss x)) m);
        }

pub wrap : (ss : List Shape) (s : Shape) (mid after : List Text) (ns : List Node) (new rest : List Shape) → after ≡ add same_text mid (printed s) → new ≡ ss ++ rest → Sound ns new → map printed new ≡ mid
    → (x : Node) → Known (length new) x → node_shape new x ≡ s → Made ss s after (enter ns x)
wrap ss s mid after ns new rest a e g t x k i =
    let m = entered ns new g x k in
    record {
      new = m.new;
      rest = rest ++ m.rest;
      longer = cc (m.longer, append_assoc ss rest m.rest);
      sound = m.sound;
      part = m.part;
      is = m.is ∙ i;
      texts = cc m.texts;
    }

pub record MadeAll (ss : List Shape) (ts : Shapes) (after : List Text) (r : List ℕ × List Node) : Type 0 where
  pub new : List Shape
  pub rest : List Shape
  pub longer : new ≡ ss ++ rest
  pub sound : Sound r.1 new
  pub parts : Parts (length new) r.0
  pub is : shapes_at new r.0 ≡ ts
  pub texts : map printed new ≡ after

basics_texts : map printed basics ≡ map single basic_codes
unfolding basics is_basic
basics_texts = refl

letter : (c : ℕ) → is_basic c ≡ true → In c basic_codes
unfolding is_basic
letter c h = has_in numbers basic_codes c h

basic_codes_count : length basic_codes ≡ 14
basic_codes_count = refl

letter_shape : (c : ℕ) (h : is_basic c ≡ true) → (place eqb basic_codes c < 14) × (get_or basics (place eqb basic_codes c) byte ≡ basic c h)
letter_shape c h =
    let p = place_in numbers basic_codes c 0 (letter c h) in
    let k : ℕ = place eqb basic_codes c in
    let l : k < 14 = omega (arith, p.0, basic_codes_count) in (
      l,
      printed_inj (get_or basics k byte) (basic c h)
          (sym (get_or-map printed basics k byte [] (omega (arith, basics_count))) ∙ ap (λ (z : List Text). get_or z k []) basics_texts ∙ get_or-map single basic_codes k 0 [] p.0 ∙ ap single p.1),
    )

-- a number stays what it is as the book grows
kept_at : (ss r new : List Shape) → new ≡ ss ++ r → (n : ℕ) → Part (length ss) n → Part (length new) n × (shape_at new n ≡ shape_at ss n)
kept_at ss r new e n p = (omega (arith, ap length e, length-append ss r), ap (λ (z : List Shape). shape_at z n) e ∙ at_more ss r n p)

add_both : (b : List Text) (xs ys : List Shape) → add_all same_text b (map printed (xs ++ ys)) ≡ add_all same_text (add_all same_text b (map printed xs)) (map printed ys)
add_both b xs ys = ap (add_all same_text b) (map-append printed xs ys) ∙ add_all_append same_texts b (map printed xs) (map printed ys)

abbrev put : List Shape → List Shape → List Text
put ss cs = add_all same_text (map printed ss) (map printed cs)

mutual
  pub interned : (s : Shape) (ns : List Node) (ss : List Shape) → Sound ns ss → Made ss s (put ss (containers s)) (intern s ns)
  interned (basic c h) ns ss g =
      let p = letter_shape c h in
      record {
        new = ss;
        rest = [];
        longer = sym (append-nil ss);
        sound = g;
        part = omega (arith, p.0);
        is = ap (λ (z : ℕ). get_or (basics ++ ss) z byte) (omega arith) ∙ get_or_append_left basics ss byte (place eqb basic_codes c) (omega (arith, p.0, basics_count)) ∙ p.1;
        texts = refl;
      }
  interned (Shape.array t) ns ss g =
      let m = interned t ns ss g in
      wrap ss (Shape.array t) (put ss (containers t)) _ (intern t ns).1 m.new m.rest (add_both (map printed ss) (containers t) (Shape.array t ∷ [])) m.longer m.sound m.texts
      (array (intern t ns).0) m.part (ap Shape.array m.is)
  interned (Shape.maybe t) ns ss g =
      let m = interned t ns ss g in
      wrap ss (Shape.maybe t) (put ss (containers t)) _ (intern t ns).1 m.new m.rest (add_both (map printed ss) (containers t) (Shape.maybe t ∷ [])) m.longer m.sound m.texts
      (maybe (intern t ns).0) m.part (ap Shape.maybe m.is)
  interned (Shape.dict t u) ns ss g =
      let m = interned t ns ss g in
      let q = interned u (intern t ns).1 m.new m.sound in
      let k = kept_at m.new q.rest q.new q.longer (intern t ns).0 m.part in
      wrap ss (Shape.dict t u) (add_all same_text (put ss (containers t)) (map printed (containers u))) _ (intern u (intern t ns).1).1 q.new (m.rest ++ q.rest)
      (add_both (map printed ss) (containers t) (containers u ++ Shape.dict t u ∷ []) ∙ add_both (put ss (containers t)) (containers u) (Shape.dict t u ∷ []))
      (cc (m.longer, q.longer, append_assoc ss m.rest q.rest)) q.sound (cc (m.texts, q.texts))
      (dict (intern t ns).0 (intern u (intern t ns).1).0) (k.0, q.part) (ap₂ Shape.dict (k.1 ∙ m.is) q.is)
  interned (Shape.structure t ts) ns ss g =
      let m = interned t ns ss g in
      let q = interned_all ts (intern t ns).1 m.new m.sound in
      let k = kept_at m.new q.rest q.new q.longer (intern t ns).0 m.part in
      wrap ss (Shape.structure t ts) (add_all same_text (put ss (containers t)) (map printed (containers_all ts))) _ (intern_all ts (intern t ns).1).1 q.new (m.rest ++ q.rest)
      (add_both (map printed ss) (containers t) (containers_all ts ++ Shape.structure t ts ∷ []) ∙ add_both (put ss (containers t)) (containers_all ts) (Shape.structure t ts ∷ []))
      (cc (m.longer, q.longer, append_assoc ss m.rest q.rest)) q.sound (cc (m.texts, q.texts))
      (structure ((intern t ns).0 ∷ (intern_all ts (intern t ns).1).0)) (k.0, q.parts) (ap₂ Shape.structure (k.1 ∙ m.is) q.is)

  pub interned_all : (ts : Shapes) (ns : List Node) (ss : List Shape) → Sound ns ss → MadeAll ss ts (put ss (containers_all ts)) (intern_all ts ns)
  interned_all nil ns ss g = record { new = ss; rest = []; longer = sym (append-nil ss); sound = g; parts = tt; is = refl; texts = refl }
  interned_all (more t ts) ns ss g =
      let m = interned t ns ss g in
      let q = interned_all ts (intern t ns).1 m.new m.sound in
      let k = kept_at m.new q.rest q.new q.longer (intern t ns).0 m.part in
      record {
        new = q.new;
        rest = m.rest ++ q.rest;
        longer = cc (m.longer, q.longer, append_assoc ss m.rest q.rest);
        sound = q.sound;
        parts = (k.0, q.parts);
        is = ap₂ more (k.1 ∙ m.is) q.is;
        texts = cc (m.texts, q.texts, add_both (map printed ss) (containers t) (containers_all ts));
      }

-- numbers and texts
pub known_is : (ss : List Shape) → known (map printed ss) ≡ [] ∷ map printed (basics ++ ss)
known_is ss = ap (λ (z : List Text). [] ∷ z) (ap (λ (z : List Text). z ++ map printed ss) (sym basics_texts) ∙ sym (map-append printed basics ss))

pub text_is : (ss : List Shape) (n : ℕ) → Part (length ss) n → text_of (map printed ss) n ≡ printed (shape_at ss n)
text_is ss n p = ap (λ (z : List Text). get_or z n []) (known_is ss) ∙ by n p
  where
    by : (n : ℕ) → Part (length ss) n → get_or ([] ∷ map printed (basics ++ ss)) n [] ≡ printed (shape_at ss n)
    by zero p = absurd (omega arith)
    by (suc n) p = get_or-map printed (basics ++ ss) n byte [] (omega (arith, basics_long ss)) ∙ ap (λ (k : ℕ). printed (get_or (basics ++ ss) k byte)) (omega arith)

pub empty_not : (s : Shape) → same_text (printed s) [] ≡ false
empty_not s = let h = head s in rw h.text

-- no two numbers have the same text
pub distinct_texts : (ss : List Shape) → Distinct ss → Distinct (map printed ss)
distinct_texts [] d = tt
distinct_texts (s ∷ ss) d = (λ i. let p = map_in printed (printed s) ss i in d.0 (rw (printed_inj p.0 s p.2) at p.1), distinct_texts ss d.1)

pub known_apart : (ss : List Shape) → Distinct (basics ++ ss) → Distinct (known (map printed ss))
known_apart ss d = subst Distinct (sym (known_is ss)) (λ i. let p = map_in printed [] (basics ++ ss) i in cc (p.2, empty_not p.0, same_texts.self []), distinct_texts (basics ++ ss) d)

pub number_is : (ss : List Shape) → Distinct (basics ++ ss) → (n : ℕ) (s : Shape) → Part (length ss) n → shape_at ss n ≡ s → number_of (map printed ss) (printed s) ≡ n
number_is ss d n s p e =
    let l = length-map ss printed in
    ap (number_of (map printed ss)) (sym (text_is ss n p ∙ ap printed e)) ∙ place_at same_texts (known (map printed ss)) n [] (known_apart ss d) (omega arith)
