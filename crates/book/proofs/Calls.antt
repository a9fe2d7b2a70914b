-- A call of the book over numbers answers as the plain book does.
use Rattle.std.proofs.Common.{◌≡◌, ℕ, ◌+◌, ◌-◌, ◌≤◌, eqb, ltb, ◌⊎◌, List, [], ◌∷◌, ◌++◌, map, length, sym, refl, ap, ◌∙◌, subst, ap₂, inl, inr, append-nil, arith}
use mathlib.Core.Option.{Option, none, some}
use lib.ListN.{length-map}
use Rattle.std.proofs.lemmas.List.{map_push}
use Rattle.std.proofs.lemmas.Bool.Decides.{nat_tests}
use Rattle.grammar.specs.Lists.{In, place, add}
use Rattle.grammar.specs.Shape.{Text, Shape, Shapes, nil, more, printed, printed_all}
use Rattle.grammar.specs.declared.figures.Figures.{Figures}
use Rattle.grammar.specs.declared.error.Fault.{Fault}
use Rattle.grammar.specs.Scan.{fault}
use Rattle.grammar.specs.Read.{reading, read_all}
use Rattle.grammar.specs.Refusals.{accepted, refused}
use Rattle.grammar.proofs.ScanExact.{scans_valid}
use Rattle.book.specs.Plain.{Call, from_bytes, Answer, Limits, Refusing, Needed, same_text, known, number_of, texts, enclosed, whole_text, parts, containers_of, grown, tails_of, next, first_at, at, by, long_text, invalid_text, empty_list, ◌else◌, early, late, needed, answered, call, run}
use Rattle.book.specs.Plain
use Rattle.book.specs.Agree.{EachRunAgrees}
use Rattle.book.specs.Nodes.{Node, array, maybe, dict, structure, same_node, enter, intern, size_of, node_figures, intern_text, size_call, basics, byte, shape_at, shapes_at, node_shape, Part, Parts, Known}
use Rattle.book.specs.Nodes
use Rattle.grammar.proofs.Prefix.{bare}
use Rattle.grammar.proofs.ReadBack.{reading_printed, read_all_printed, reading_empty}
use Rattle.book.proofs.Lists.{in_get_d, add_all_old, add_all_append, map_in}
use Rattle.book.proofs.NodeShapes.{same_texts, basics_long}
use Rattle.book.proofs.Figured.{node_figures_are}
use Rattle.book.proofs.Sound.{Sound, as_many, inner, inner_is, inner_in, in_map, start}
use Rattle.book.proofs.Interned.{entered, interned, text_is, number_is, known_is}
use Rattle.book.proofs.Tails.{tails_count}

-- what the refusals that do not apply say
pub else_none : (a b : Refusing) → (a else b) ≡ none → (a ≡ none) × (b ≡ none)
else_none a b e = grind arith

pub late_none : (limits : Limits) (need : Needed) → late limits need ≡ none → (need.types ≤ limits.types) × (need.fields ≤ limits.fields)
late_none limits need e = grind (arith, nat_tests)

at_none : (k : ℕ) (o : Option ℕ) → at k o ≡ none → o ≡ none
at_none k o e = grind arith

by_none : (o : Option Fault) → by o ≡ none → o ≡ none
by_none o e = grind arith

all_parts : (m : ℕ) (ns : List ℕ) → first_at (λ n. ltb (14 + m) n) ns ≡ none → first_at (λ n. eqb n 0) ns ≡ none → Parts m ns
all_parts m [] a b = tt
all_parts m (n ∷ ns) a b = grind (arith, nat_tests, all_parts m ns)

record Fair (m : ℕ) (c : Call) : Type 0 where
  valid : invalid_text c ≡ none
  known : Parts m (parts c)
  filled : empty_list c ≡ none

fair : (m : ℕ) (c : Call) → early c m ≡ none → Fair m c
fair m c e =
    let a = else_none (long_text c) _ e in
    let b = else_none (invalid_text c) _ a.1 in
    let d = else_none (at 3 (first_at (λ n. ltb (14 + m) n) (parts c))) _ b.1 in
    let f = else_none (at 4 (first_at (λ n. eqb n 0) (parts c))) _ d.1 in
    record {
      valid = b.0;
      known = all_parts m (parts c) (at_none 3 _ d.0) (at_none 4 _ f.0);
      filled = f.1;
    }

-- What both books would come to is the same.
pub record Same (ns : List Node) (ss : List Shape) (r : ℕ × List Node) (size : ℕ) (w : Text) : Type 0 where
  pub new : List Shape
  pub sound : Sound r.1 new
  pub texts : map printed new ≡ grown (map printed ss) w
  pub answer : r.0 ≡ number_of (map printed new) w
  pub written : In w (known (map printed new))
  pub length : size ≡ length w

grown_node : (ns : List Node) (ss : List Shape) → Sound ns ss → (x : Node) → Known (length ss) x
    → grown (map printed ss) (printed (node_shape ss x)) ≡ add same_text (map printed ss) (printed (node_shape ss x))
grown_node ns ss g x k =
    rw (
      reading_printed (node_shape ss x),
      inner_is ss x k,
      map_push printed (inner (node_shape ss x)) (node_shape ss x),
      add_all_append same_texts (map printed ss) (map printed (inner (node_shape ss x))) (printed (node_shape ss x) ∷ []),
      add_all_old same_texts (map printed ss) (map printed (inner (node_shape ss x))) (λ w i. let p = map_in printed w (inner (node_shape ss x)) i in rw (← p.2) (in_map printed p.0 ss (inner_in ss g.closed x k p.0 p.1))),
    )

written_at : (ss : List Shape) (n : ℕ) (s : Shape) → Part (length ss) n → shape_at ss n ≡ s → In (printed s) (known (map printed ss))
written_at ss n s p e = subst (λ (z : List Text). In (printed s) z) (sym (known_is ss)) (inr (in_map printed s (basics ++ ss) (rw e at (in_get_d (basics ++ ss) (n - 1) byte (omega (arith, basics_long ss))))))

same_node_is : (ns : List Node) (ss : List Shape) → Sound ns ss → (x : Node) → Known (length ss) x → (w : Text) → w ≡ printed (node_shape ss x)
    → Same ns ss (enter ns x) (size_of ns x) w
same_node_is ns ss g x k w e =
    let m = entered ns ss g x k in
    rw e (record {
      new = m.new;
      sound = m.sound;
      texts = m.texts ∙ sym (grown_node ns ss g x k);
      answer = sym (number_is m.new m.sound.apart (15 + place same_node ns x) (node_shape ss x) m.part m.is);
      written = written_at m.new (15 + place same_node ns x) (node_shape ss x) m.part m.is;
      length = ap (λ (z : List Figures). (node_figures z x).length) g.figures ∙ ap (λ (f : Figures). f.length) (node_figures_are ss x k);
    })

same_tree : (ns : List Node) (ss : List Shape) → Sound ns ss → (w : Text) → (w ≡ []) ⊎ ((s : Shape) × (w ≡ printed s))
    → Same ns ss (intern_text ns (reading w)) (length w) w
same_tree ns ss g w (inl e) = rw e (rw reading_empty (record { new = ss; sound = g; texts = rw reading_empty; answer = refl; written = inl refl; length = refl }))
same_tree ns ss g w (inr (s, e)) =
    let m = interned s ns ss g in
    let r = reading_printed s in
    rw e (rw r (record {
      new = m.new;
      sound = m.sound;
      texts = rw r m.texts;
      answer = sym (number_is m.new m.sound.apart (intern s ns).0 s m.part m.is);
      written = written_at m.new (intern s ns).0 s m.part m.is;
      length = refl;
    }))

texts_are : (ss : List Shape) (ns : List ℕ) → Parts (length ss) ns → texts (map printed ss) ns ≡ printed_all (shapes_at ss ns)
texts_are ss [] p = refl
texts_are ss (n ∷ ns) p = ap₂ ◌++◌ (text_is ss n p.0) (texts_are ss ns p.1)

whole_tree : (ts : Shapes) (w : Text) → w ≡ printed_all ts → (enclosed (read_all w) w ≡ []) ⊎ ((s : Shape) × (enclosed (read_all w) w ≡ printed s))
whole_tree nil w e = inl (rw e (rw (read_all_printed nil)))
whole_tree (more t nil) w e = inr (t, rw e (rw (read_all_printed (more t nil)) (append-nil (printed t))))
whole_tree (more t (more u ts)) w e = inr (Shape.structure t (more u ts), rw e (rw (read_all_printed (more t (more u ts))) (sym (bare t (more u ts)))))

same_call : (ns : List Node) (ss : List Shape) → Sound ns ss → (c : Call) → Fair (length ss) c
    → Same ns ss (Nodes.grown ns c) (size_call ns c) (whole_text (map printed ss) c)
same_call ns ss g (from_bytes w) f = let v = scans_valid w (by_none (fault w) f.valid) in same_tree ns ss g (enclosed (read_all w) w) (whole_tree v.shapes w v.text)
same_call ns ss g (Plain.array n) f = same_node_is ns ss g (array n) f.known.0 _ (ap (λ (z : Text). 97 ∷ z) (text_is ss n f.known.0))
same_call ns ss g (Plain.maybe n) f = same_node_is ns ss g (maybe n) f.known.0 _ (ap (λ (z : Text). 109 ∷ z) (text_is ss n f.known.0))
same_call ns ss g (Plain.dict a b) f =
    same_node_is ns ss g (dict a b) (f.known.0, f.known.1.0) _
    (ap₂ (λ (y z : Text). 97 ∷ 123 ∷ (y ++ (z ++ 125 ∷ []))) (text_is ss a f.known.0) (text_is ss b f.known.1.0))
same_call ns ss g (Plain.structure []) f = cc f.filled
same_call ns ss g (Plain.structure (n ∷ fs)) f =
    same_node_is ns ss g (structure (n ∷ fs)) f.known _
    (ap (λ (z : Text). 40 ∷ (z ++ 41 ∷ [])) (texts_are ss (n ∷ fs) f.known) ∙ sym (bare (shape_at ss n) (shapes_at ss fs)))

-- What the plain book does, where a book over numbers stands for it.
pub record Taken (b : List Text) (w : Text) (r : Answer × List Text) : Type 0 where
  pub book : r.1 ≡ grown b w
  pub answer : r.0 ≡ accepted (number_of r.1 w)
  pub written : In w (known r.1)

pub record Left (b : List Text) (r : Answer × List Text) : Type 0 where
  pub number : ℕ
  pub values : List ℕ
  pub book : r.1 ≡ b
  pub answer : r.0 ≡ refused number values

-- One call, on nodes and on the texts b, of which w is the whole text.
pub record Step (b : List Text) (w : Text) (r : Answer × List Node) (p : Answer × List Text) : Type 0 where
  pub new : List Shape
  pub sound : Sound r.1 new
  pub texts : map printed new ≡ p.1
  pub answer : r.0 ≡ p.0
  pub told : Left b p ⊎ Taken b w p

longs : (ns : List Node) (ss : List Shape) → Sound ns ss → length ns ≡ length (map printed ss)
longs ns ss g = as_many ns ss g ∙ sym (length-map ss printed)

needed_same : (ns : List Node) (ss : List Shape) (c : Call) (w : Text) → Same ns ss (Nodes.grown ns c) (size_call ns c) w → Nodes.needed ns c ≡ needed (map printed ss) w
needed_same ns ss c w m = λ i. record {
  size = m.length i;
  types = (longs (Nodes.grown ns c).1 m.new m.sound ∙ ap length m.texts) i;
  fields = (tails_count (Nodes.grown ns c).1 m.new m.sound ∙ ap (λ (z : List Text). length (tails_of z)) m.texts) i;
}

pub simulates : (limits : Limits) (ns : List Node) (ss : List Shape) → Sound ns ss → (c : Call)
    → Step (map printed ss) (whole_text (map printed ss) c) (Nodes.call limits ns c) (call limits (map printed ss) c)
unfolding Nodes.call call
simulates limits ns ss g c = rw (← longs ns ss g) (go (early c (length ns)) refl)
  where
    b : List Text
    b = map printed ss

    w : Text
    w = whole_text b c

    go : (o : Refusing) → early c (length ns) ≡ o
        → Step b w (Nodes.answered ns (Nodes.grown ns c) (early c (length ns) else late limits (Nodes.needed ns c))) (answered b w (early c (length ns) else late limits (needed b w)))
    go (some e) h = rw h (record { new = ss; sound = g; texts = refl; answer = refl; told = inl (record { number = e.0; values = e.1; book = refl; answer = refl }) })
    go none h =
        let m = same_call ns ss g c (fair (length ss) c (ap (early c) (sym (as_many ns ss g)) ∙ h)) in
        rw h (subst (λ (f : Needed). Step b w (Nodes.answered ns (Nodes.grown ns c) (late limits f)) (answered b w (late limits (needed b w)))) (sym (needed_same ns ss c w m)) (end m (late limits (needed b w))))
      where
        end : Same ns ss (Nodes.grown ns c) (size_call ns c) w → (o : Refusing) → Step b w (Nodes.answered ns (Nodes.grown ns c) o) (answered b w o)
        end m (some e) = record { new = ss; sound = g; texts = refl; answer = refl; told = inl (record { number = e.0; values = e.1; book = refl; answer = refl }) }
        end m none = record {
          new = m.new;
          sound = m.sound;
          texts = m.texts;
          answer = ap accepted (m.answer ∙ ap (λ (z : List Text). number_of z w) m.texts);
          told = inr (record { book = refl; answer = refl; written = subst (λ (z : List Text). In w (known z)) m.texts m.written });
        }

-- A whole run, from the empty books.
pub record Runs (r : List Answer × List Node) (b : List Answer × List Text) : Type 0 where
  pub new : List Shape
  pub sound : Sound r.1 new
  pub texts : map printed new ≡ b.1
  pub answers : r.0 ≡ b.0

pub runs : (limits : Limits) (ns : List Node) (ss : List Shape) → Sound ns ss → (cs : List Call)
    → Runs (Nodes.run limits ns cs) (run limits (map printed ss) cs)
runs limits ns ss g [] = record { new = ss; sound = g; texts = refl; answers = refl }
runs limits ns ss g (c ∷ cs) =
    let s = simulates limits ns ss g c in
    let r = runs limits (Nodes.call limits ns c).1 s.new s.sound cs in
    let e : run limits (map printed s.new) cs ≡ run limits (call limits (map printed ss) c).1 cs = ap (λ (z : List Text). run limits z cs) s.texts in
    record { new = r.new; sound = r.sound; texts = r.texts ∙ ap (λ (z : List Answer × List Text). z.1) e; answers = ap₂ ◌∷◌ s.answer (r.answers ∙ ap (λ (z : List Answer × List Text). z.0) e) }

pub from_empty : (limits : Limits) (cs : List Call) → Runs (Nodes.run limits [] cs) (run limits [] cs)
from_empty limits cs = runs limits [] [] start cs

pub runs_agree : EachRunAgrees
runs_agree limits cs = let r = from_empty limits cs in record { answers = r.answers; texts = ap (map printed) r.sound.fold ∙ r.texts }
