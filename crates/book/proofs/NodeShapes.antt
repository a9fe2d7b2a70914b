-- The shapes of numbers and of nodes: each number has its own, and keeps it as the book grows.
use Rattle.std.proofs.Common.{◌≡◌, ℕ, ◌+◌, ◌-◌, ◌≤◌, Bool, true, eqb, List, [], ◌∷◌, ◌++◌, length, get_or, sym, refl, ap, ◌∙◌, ap₂, append_assoc, arith, length-append}
use Rattle.std.proofs.lemmas.List.{get_or_append_left, get_or-append_right}
use Rattle.std.proofs.lemmas.Bool.{eq-eqb}
use Rattle.grammar.specs.Lists.{Distinct}
use Rattle.grammar.specs.Shape.{Text, is_basic, Shape, more, printed}
use Rattle.book.specs.Plain.{same_text}
use Rattle.book.specs.Nodes.{Node, array, maybe, dict, structure, code, same_node, basics, byte, shape_at, shapes_at, node_shape, Part, Parts, Known}
use Rattle.grammar.proofs.ReadBack.{printed_inj}
use Rattle.book.proofs.Lists.{Decides, numbers, same_lists, distinct_at}

pub same_texts : Decides same_text
same_texts = same_lists numbers

abbrev pub Num : List Shape → ℕ → Text → Type 0
Num ss n w = Part (length ss) n × (w ≡ printed (shape_at ss n))

abbrev pub Row : List Shape → Node → Text → Type 0
Row ss x w = Known (length ss) x × (w ≡ printed (node_shape ss x))

pub bool_same : (p q : Bool) → (p ≡ true → q ≡ true) → (q ≡ true → p ≡ true) → p ≡ q
bool_same p q f g = grind arith

pub basics_long : (ss : List Shape) → length (basics ++ ss) ≡ 14 + length ss
unfolding basics is_basic
basics_long ss = omega arith

pub at_inj : (ss : List Shape) (n m : ℕ) → Distinct (basics ++ ss) → Part (length ss) n → Part (length ss) m → shape_at ss n ≡ shape_at ss m → n ≡ m
at_inj ss n m d p q e = grind (arith, basics_long ss, distinct_at (basics ++ ss) (n - 1) (m - 1) byte d)

pub ats_inj : (ss : List Shape) (ns ms : List ℕ) → Distinct (basics ++ ss) → Parts (length ss) ns → Parts (length ss) ms → shapes_at ss ns ≡ shapes_at ss ms → ns ≡ ms
ats_inj ss [] [] d p q e = refl
ats_inj ss (n ∷ ns) (m ∷ ms) d p q e = ap₂ ◌∷◌ (at_inj ss n m d p.0 q.0 cc) (ats_inj ss ns ms d p.1 q.1 cc)
ats_inj ss ns ms d p q e = cc

pub node_inj : (ss : List Shape) (x y : Node) → Distinct (basics ++ ss) → Known (length ss) x → Known (length ss) y → node_shape ss x ≡ node_shape ss y → x ≡ y
node_inj ss (array a) (array b) d p q e = ap array (at_inj ss a b d p q cc)
node_inj ss (maybe a) (maybe b) d p q e = ap maybe (at_inj ss a b d p q cc)
node_inj ss (dict a a') (dict b b') d p q e = ap₂ dict (at_inj ss a b d p.0 q.0 cc) (at_inj ss a' b' d p.1 q.1 cc)
node_inj ss (structure (a ∷ az)) (structure (b ∷ bs)) d p q e = ap structure (ap₂ ◌∷◌ (at_inj ss a b d p.0 q.0 cc) (ats_inj ss az bs d p.1 q.1 cc))
node_inj ss (structure []) y d p q e = absurd p
node_inj ss x (structure []) d p q e = absurd q
node_inj ss x y d p q e = cc

pub keep_num : (ss : List Shape) → Distinct (basics ++ ss) → (n m : ℕ) (u v : Text) → Num ss n u → Num ss m v → eqb n m ≡ same_text u v
keep_num ss d n m u v p q =
    bool_same (eqb n m) (same_text u v) (λ h. grind (arith, numbers.so n m, same_texts.self v)) (λ h. eq-eqb n m (at_inj ss n m d p.0 q.0 (printed_inj (shape_at ss n) (shape_at ss m) (cc (same_texts.so u v h)))))

pub code_inj : (x y : Node) → code x ≡ code y → x ≡ y
code_inj x y e = grind arith

pub same_nodes : Decides same_node
same_nodes = record { so = λ x y h. code_inj x y (same_texts.so (code x) (code y) h); self = λ x. same_texts.self (code x) }

pub keep_node : (ss : List Shape) → Distinct (basics ++ ss) → (x y : Node) (u v : Text) → Row ss x u → Row ss y v → same_node x y ≡ same_text u v
keep_node ss d x y u v p q = bool_same (same_node x y) (same_text u v)
    (λ h. grind (arith, same_nodes.so x y, same_texts.self v))
    (λ h. let e = node_inj ss x y d p.0 q.0 (printed_inj (node_shape ss x) (node_shape ss y) (cc (same_texts.so u v h))) in cc (e, same_nodes.self y))

-- more containers change none of the numbers before
parts_more : (m k : ℕ) (ns : List ℕ) → m ≤ k → Parts m ns → Parts k ns
parts_more m k [] l p = tt
parts_more m k (n ∷ ns) l p = (omega arith, parts_more m k ns l p.1)

pub known_more : (m k : ℕ) (x : Node) → m ≤ k → Known m x → Known k x
known_more m k (array n) l p = omega arith
known_more m k (maybe n) l p = omega arith
known_more m k (dict a b) l p = omega arith
known_more m k (structure []) l p = p
known_more m k (structure (n ∷ ns)) l p = (omega arith, parts_more m k ns l p.1)

pub at_more : (ss r : List Shape) (n : ℕ) → Part (length ss) n → shape_at (ss ++ r) n ≡ shape_at ss n
at_more ss r n p = let l = basics_long ss in
    ap (λ (z : List Shape). get_or z (n - 1) byte) (sym (append_assoc basics ss r)) ∙ get_or_append_left (basics ++ ss) r byte (n - 1) (omega arith)

pub ats_more : (ss r : List Shape) (ns : List ℕ) → Parts (length ss) ns → shapes_at (ss ++ r) ns ≡ shapes_at ss ns
ats_more ss r [] p = refl
ats_more ss r (n ∷ ns) p = ap₂ more (at_more ss r n p.0) (ats_more ss r ns p.1)

pub node_more : (ss r : List Shape) (x : Node) → Known (length ss) x → node_shape (ss ++ r) x ≡ node_shape ss x
node_more ss r (array n) p = ap Shape.array (at_more ss r n p)
node_more ss r (maybe n) p = ap Shape.maybe (at_more ss r n p)
node_more ss r (dict a b) p = ap₂ Shape.dict (at_more ss r a p.0) (at_more ss r b p.1)
node_more ss r (structure []) p = refl
node_more ss r (structure (n ∷ ns)) p = ap₂ Shape.structure (at_more ss r n p.0) (ats_more ss r ns p.1)

pub row_more : (ss r : List Shape) (x : Node) (w : Text) → Row ss x w → Row (ss ++ r) x w
row_more ss r x w p = (known_more (length ss) (length (ss ++ r)) x (omega (arith, length-append ss r)) p.0, p.1 ∙ ap printed (sym (node_more ss r x p.0)))

pub basics_count : length basics ≡ 14
unfolding basics is_basic
basics_count = refl

pub at_shape : (ss : List Shape) (n : ℕ) → 15 ≤ n → shape_at ss n ≡ get_or ss (n - 15) byte
at_shape ss n l = let c = basics_count in grind (arith, get_or-append_right basics ss 14 (n - 1) byte)
