-- A book over numbers, and the shapes that it stands for.
use Rattle.std.proofs.Common.{◌≡◌, ℕ, suc, ◌+◌, ◌-◌, Bool, true, not, ◌&&◌, ◌⊎◌, List, [], ◌∷◌, ◌++◌, map, length, sym, refl, ap, ◌∙◌, subst, inl, inr, append_assoc, append-nil, arith}
use lib.ListN.{length-map}
use Rattle.std.proofs.lemmas.List.{map_push}
use Rattle.std.proofs.lemmas.Bool.{and_parts}
use Rattle.grammar.specs.Lists.{In, Distinct, has}
use Rattle.grammar.specs.Shape.{Text, is_basic, Shape, basic, printed}
use Rattle.grammar.specs.Parts.{containers, containers_all}
use Rattle.book.specs.Plain.{same_text}
use Rattle.book.specs.Nodes.{Node, array, maybe, dict, structure, same_node, basics, byte, shape_at, shapes_at, node_shape, Part, Parts, Known, Chain, shapes_from, figures_from}
use Rattle.grammar.specs.Figures.{figures_of}
use Rattle.std.proofs.lemmas.Slice.Zip.{AllZip-long, all_zipped_more}
use Rattle.std.specs.List.{AllByRecursion, AllZip}
use Rattle.book.proofs.Lists.{all_in, in_left, in_right, in_split, in_get_d, distinct_push, has_in, in_has, has2, weaken2}
use Rattle.book.proofs.NodeShapes.{same_texts, Row, basics_long, same_nodes, keep_node, known_more, row_more}
use Rattle.book.proofs.Figured.{node_figures_are, figures_push}

-- What a book over numbers keeps, where ss are its shapes.
pub record Sound (ns : List Node) (ss : List Shape) : Type 0 where
  pub each : AllZip (Row ss) ns (map printed ss)
  pub apart : Distinct (basics ++ ss)
  pub closed : (t : Shape) → In t ss → (c : Shape) → In c (containers t) → In c ss
  pub figures : figures_from [] ns ≡ map figures_of ss
  pub fold : shapes_from [] ns ≡ ss
  pub chain : Chain 0 ns
  pub once : Distinct ns

-- the shapes of the basic codes
abbrev pub Code : Shape → Type 0
Code (basic c h) = Unit {0}
Code (Shape.array t) = ⊥
Code (Shape.maybe t) = ⊥
Code (Shape.dict t u) = ⊥
Code (Shape.structure t ts) = ⊥

pub basics_codes : AllByRecursion Code basics
unfolding basics is_basic
basics_codes = (tt, (tt, (tt, (tt, (tt, (tt, (tt, (tt, (tt, (tt, (tt, (tt, (tt, (tt, tt))))))))))))))

-- the basic types hold no container
pub bare : (s : Shape) → In s basics → containers s ≡ []
bare s i = by s (all_in Code basics s basics_codes i)
  where
    by : (s : Shape) → Code s → containers s ≡ []
    by (basic c h) k = refl
    by s k = absurd k

pub in_map : {A B : Type 0} (f : A → B) (x : A) (xs : List A) → In x xs → In (f x) (map f xs)
in_map f x [] i = i
in_map f x (y ∷ ys) (inl e) = inl (ap f e)
in_map f x (y ∷ ys) (inr i) = inr (in_map f x ys i)

abbrev Closed : List Shape → Type 0
Closed ss = (s : Shape) → In s ss → (c : Shape) → In c (containers s) → In c ss

pub closed_at : (ss : List Shape) → Closed ss → (n : ℕ) → Part (length ss) n → (c : Shape) → In c (containers (shape_at ss n)) → In c ss
closed_at ss h n p c i = let l = basics_long ss in elim (in_split (shape_at ss n) basics ss (in_get_d (basics ++ ss) (n - 1) byte (omega arith))) [
  | inl j ↦ absurd (rw (bare (shape_at ss n) j) at i)
  | inr j ↦ h (shape_at ss n) j c i
]

pub closed_ats : (ss : List Shape) → Closed ss → (ns : List ℕ) → Parts (length ss) ns → (c : Shape) → In c (containers_all (shapes_at ss ns)) → In c ss
closed_ats ss h [] p c i = absurd i
closed_ats ss h (n ∷ ns) p c i = elim (in_split c (containers (shape_at ss n)) (containers_all (shapes_at ss ns)) i) [ inl j ↦ closed_at ss h n p.0 c j | inr j ↦ closed_ats ss h ns p.1 c j ]

abbrev pub inner : Shape → List Shape
inner (basic c h) = []
inner (Shape.array t) = containers t
inner (Shape.maybe t) = containers t
inner (Shape.dict k v) = containers k ++ containers v
inner (Shape.structure t ts) = containers t ++ containers_all ts

pub inner_is : (ss : List Shape) (x : Node) → Known (length ss) x → containers (node_shape ss x) ≡ inner (node_shape ss x) ++ node_shape ss x ∷ []
inner_is ss (array n) k = refl
inner_is ss (maybe n) k = refl
inner_is ss (dict a b) k = sym (append_assoc (containers (shape_at ss a)) (containers (shape_at ss b)) _)
inner_is ss (structure []) k = absurd k
inner_is ss (structure (n ∷ ns)) k = sym (append_assoc (containers (shape_at ss n)) (containers_all (shapes_at ss ns)) _)

-- a container is the last of its containers
pub boxed : (ss : List Shape) (x : Node) → Known (length ss) x → In (node_shape ss x) (containers (node_shape ss x))
boxed ss x k = rw (inner_is ss x k) (in_right _ (inner (node_shape ss x)) _ (inl refl))

pub inner_in : (ss : List Shape) → Closed ss → (x : Node) → Known (length ss) x → (c : Shape) → In c (inner (node_shape ss x)) → In c ss
inner_in ss h (array n) k c i = closed_at ss h n k c i
inner_in ss h (maybe n) k c i = closed_at ss h n k c i
inner_in ss h (dict a b) k c i = elim (in_split c (containers (shape_at ss a)) (containers (shape_at ss b)) i) [ inl j ↦ closed_at ss h a k.0 c j | inr j ↦ closed_at ss h b k.1 c j ]
inner_in ss h (structure []) k c i = absurd k
inner_in ss h (structure (n ∷ ns)) k c i = closed_ats ss h (n ∷ ns) k c i

fold_push : (acc : List Shape) (xs : List Node) (y : Node) → shapes_from acc (xs ++ y ∷ []) ≡ shapes_from acc xs ++ node_shape (shapes_from acc xs) y ∷ []
fold_push acc [] y = refl
fold_push acc (x ∷ xs) y = fold_push (acc ++ node_shape acc x ∷ []) xs y

chain_push : (m : ℕ) (xs : List Node) (y : Node) → Chain m xs → Known (m + length xs) y → Chain m (xs ++ y ∷ [])
chain_push m [] y c k = (known_more (m + 0) m y (omega arith) k, tt)
chain_push m (x ∷ xs) y c k = (c.0, chain_push (m + 1) xs y c.1 (known_more (m + suc (length xs)) (m + 1 + length xs) y (omega arith) k))

pub as_many : (ns : List Node) (ss : List Shape) → Sound ns ss → length ns ≡ length ss
as_many ns ss g = sym (AllZip-long (Row ss) ns (map printed ss) g.each) ∙ length-map ss printed

module _ (ns : List Node) (ss : List Shape) (g : Sound ns ss) (x : Node) (k : Known (length ss) x) where
  pub row : Row ss x (printed (node_shape ss x))
  row = (k, refl)

  -- a node is in the book where its text is
  pub has_same : has same_node ns x ≡ has same_text (map printed ss) (printed (node_shape ss x))
  has_same = has2 same_node same_text (Row ss) (keep_node ss g.apart) ns (map printed ss) x (printed (node_shape ss x)) g.each row

  pub text_in : In (node_shape ss x) ss → In x ns
  text_in i = has_in same_nodes ns x (has_same ∙ in_has same_texts (map printed ss) (printed (node_shape ss x)) (in_map printed (node_shape ss x) ss i))

  pub in_text : In x ns → In (printed (node_shape ss x)) (map printed ss)
  in_text i = has_in same_texts (map printed ss) (printed (node_shape ss x)) (sym has_same ∙ in_has same_nodes ns x i)

  pub fresh : (In x ns → ⊥) → In (node_shape ss x) (basics ++ ss) → ⊥
  fresh n i = elim (in_split (node_shape ss x) basics ss i) [ inl j ↦ rw (bare (node_shape ss x) j) at (boxed ss x k) | inr j ↦ n (text_in j) ]

  pub pushed : (In x ns → ⊥) → Sound (ns ++ x ∷ []) (ss ++ node_shape ss x ∷ [])
  pushed n =
      let s : Shape = node_shape ss x in
      let d : Distinct (basics ++ (ss ++ s ∷ [])) = subst Distinct (append_assoc basics ss (s ∷ [])) (distinct_push (basics ++ ss) s g.apart (fresh n)) in
      record {
        each = rw (map_push printed ss s) (all_zipped_more (Row (ss ++ s ∷ [])) ns (map printed ss) x (printed s)
            (weaken2 (Row ss) (Row (ss ++ s ∷ [])) ns (map printed ss) (row_more ss (s ∷ [])) g.each) (row_more ss (s ∷ []) x (printed s) row));
        apart = d;
        closed = λ t i c j. clo t (in_split t ss (s ∷ []) i) c j;
        figures = figures_push [] ns x ∙ rw g.figures (rw (node_figures_are ss x k) (sym (map_push figures_of ss s)));
        fold = fold_push [] ns x ∙ ap (λ (z : List Shape). z ++ node_shape z x ∷ []) g.fold;
        chain = chain_push 0 ns x g.chain (known_more (length ss) (0 + length ns) x (omega (arith, as_many ns ss g)) k);
        once = distinct_push ns x g.once n;
      }
    where
      clo : (t : Shape) → In t ss ⊎ In t (node_shape ss x ∷ []) → (c : Shape) → In c (containers t) → In c (ss ++ node_shape ss x ∷ [])
      clo t (inl i) c j = in_left c ss (node_shape ss x ∷ []) (g.closed t i c j)
      clo t (inr (inr i)) c j = absurd i
      clo t (inr (inl e)) c j = elim (in_split c (inner (node_shape ss x)) (node_shape ss x ∷ []) (rw (inner_is ss x k) at (rw (← e) at j))) [
        | inl i ↦ in_left c ss (node_shape ss x ∷ []) (inner_in ss g.closed x k c i)
        | inr i ↦ in_right c ss (node_shape ss x ∷ []) i
      ]

abbrev unique : List Text → Bool
unique [] = true
unique (w ∷ ws) = not (has same_text ws w) && unique ws

unique_distinct : (ss : List Shape) → unique (map printed ss) ≡ true → Distinct ss
unique_distinct [] h = tt
unique_distinct (s ∷ ss) h =
    let p = and_parts (not (has same_text (map printed ss) (printed s))) (unique (map printed ss)) h in
    (λ i. cc (p.0, in_has same_texts (map printed ss) (printed s) (in_map printed s ss i)), unique_distinct ss p.1)

basics_apart : Distinct basics
unfolding basics is_basic
basics_apart = unique_distinct basics refl

pub start : Sound [] []
unfolding figures_from
start = record { each = tt; apart = subst Distinct (sym (append-nil basics)) basics_apart; closed = λ s i c j. absurd i; figures = refl; fold = refl; chain = tt; once = tt }
