-- The plain book, where a book over numbers stands for it: what is there stays, and a number keeps its text.
use Rattle.std.proofs.Common.{◌≡◌, ℕ, ◌<◌, ◌⊎◌, List, [], ◌∷◌, ◌++◌, map, length, get_or, sym, ap, ◌∙◌, subst, inl, inr, append_assoc, append-nil}
use Rattle.std.proofs.lemmas.List.{get_or_append_left}
use Rattle.grammar.specs.Lists.{In}
use Rattle.grammar.specs.Shape.{Text, basic_codes, Shape, printed}
use Rattle.grammar.specs.Read.{reading}
use Rattle.book.specs.Plain.{Call, Limits, single, known, text_of, number_of, whole_text, containers_of, call, run}
use Rattle.book.specs.Nodes.{Node, basics}
use Rattle.book.specs.Nodes
use Rattle.book.proofs.Lists.{in_left, place_in, add_all_longer, map_in}
use Rattle.book.proofs.NodeShapes.{same_texts}
use Rattle.book.proofs.Sound.{Sound}
use Rattle.book.proofs.Interned.{known_is}
use Rattle.book.proofs.Calls.{simulates, Left, Taken}

-- a list of texts that a book over numbers stands for
pub record Backed (b : List Text) : Type 0 where
  pub ns : List Node
  pub ss : List Shape
  pub sound : Sound ns ss
  pub texts : map printed ss ≡ b

pub known_shape : (b : List Text) → Backed b → (w : Text) → In w (known b) → ([] ≡ w) ⊎ ((s : Shape) × (printed s ≡ w))
known_shape b k w i = elim (subst (λ (z : List Text). In w z) (ap known (sym k.texts) ∙ known_is k.ss) i) [ inl e ↦ inl e | inr j ↦ let p = map_in printed w (basics ++ k.ss) j in inr (p.0, p.2) ]

pub known_keeps : (b r : List Text) (n : ℕ) → n < length (known b) → text_of (b ++ r) n ≡ text_of b n
known_keeps b r n l = ap (λ (z : List Text). get_or ([] ∷ z) n []) (sym (append_assoc (map single basic_codes) b r)) ∙ get_or_append_left ([] ∷ (map single basic_codes ++ b)) r [] n l

module _ (limits : Limits) where
  abbrev pub Done : List Text → Call → Type 0
  Done b c = (Left b (call limits b c) ⊎ Taken b (whole_text b c) (call limits b c)) × Backed (call limits b c).1

  pub done : (b : List Text) → Backed b → (c : Call) → Done b c
  done b k c = subst (λ (z : List Text). Done z c) k.texts
      (let s = simulates limits k.ns k.ss k.sound c in
      (s.told, record { ns = (Nodes.call limits k.ns c).1; ss = s.new; sound = s.sound; texts = s.texts }))

  pub backed : (b : List Text) → Backed b → (cs : List Call) → Backed (run limits b cs).1
  backed b k [] = k
  backed b k (c ∷ cs) = backed (call limits b c).1 (done b k c).1 cs

  pub longer_call : (b : List Text) → Backed b → (c : Call) → (r : List Text) × ((call limits b c).1 ≡ b ++ r)
  longer_call b k c = elim (done b k c).0 [
    | inl l ↦ ([], l.book ∙ sym (append-nil b))
    | inr t ↦ let p = add_all_longer same_texts b (containers_of (reading (whole_text b c))) in (p.0, t.book ∙ p.1)
  ]

  pub longer_run : (b : List Text) → Backed b → (cs : List Call) → (r : List Text) × ((run limits b cs).1 ≡ b ++ r)
  longer_run b k [] = ([], sym (append-nil b))
  longer_run b k (c ∷ cs) =
      let p = longer_call b k c in let q = longer_run (call limits b c).1 (done b k c).1 cs in
      (p.0 ++ q.0, cc (p.1, q.1, append_assoc b p.0 q.0))

  pub stays : (b : List Text) → Backed b → (cs : List Call) (w : Text) → In w b → In w (run limits b cs).1
  stays b k cs w i = let p = longer_run b k cs in rw p.1 (in_left w b p.0 i)

  -- the number of a whole text, and its text later on
  pub numbered : (b : List Text) → Backed b → (w : Text) → In w (known b) → (cs : List Call) → text_of (run limits b cs).1 (number_of b w) ≡ w
  numbered b k w i cs =
      let p = longer_run b k cs in let q = place_in same_texts (known b) w [] i in
      ap (λ (z : List Text). text_of z (number_of b w)) p.1 ∙ known_keeps b p.0 (number_of b w) q.0 ∙ q.1
