-- What the plain book holds after any calls.
use Rattle.std.proofs.Common.{◌≡◌, ℕ, ◌<◌, ◌≤◌, ◌⊎◌, List, [], ◌∷◌, ◌++◌, map, length, sym, refl, ap, ◌∙◌, subst, inl, inr, arith, length-append}
use mathlib.Core.Option.{none, some}
use Rattle.std.proofs.lemmas.Bool.Decides.{nat_tests}
use Rattle.grammar.specs.Lists.{In, Distinct, same_list, add_all, tails}
use Rattle.grammar.specs.Shape.{Text, basic_codes, Shape, basic, printed}
use Rattle.grammar.specs.Parts.{containers, fields, Container, Within}
use Rattle.grammar.specs.Read.{reading}
use Rattle.grammar.specs.Refusals.{accepted}
use Rattle.grammar.proofs.ReadBack.{reading_printed, reading_empty}
use Rattle.book.specs.Plain.{Call, Answer, Limits, Refusing, longest_form, same_text, single, known, text_of, number_of, whole_text, containers_of, fields_of, grown, tails_from, tails_of, ◌else◌, early, late, needed, answered, call, run}
use Rattle.book.specs.Nodes.{basics}
use Rattle.book.specs.History.{Result, ContainerText, Tail, AfterAnyCalls, OneMore, OneMoreCall}
use Rattle.std.specs.List.{flat_map}
use Rattle.book.proofs.Lists.{add_all_append, in_flat, flat_in, Decides, same_lists, place_in, in_add_all, add_all_in, add_all_old, distinct_add_all, tail_in, in_tail, map_in}
use Rattle.book.proofs.NodeShapes.{same_texts}
use Rattle.book.proofs.Sound.{start, in_map}
use Rattle.book.proofs.Interned.{distinct_texts, known_apart}
use Rattle.book.proofs.Within.{within, met}
use Rattle.book.proofs.Calls.{else_none, late_none, Left, Taken}
use Rattle.book.proofs.Backed.{Backed, known_shape, known_keeps, done, backed, longer_call, longer_run, stays, numbered}

known_longer : (b r : List Text) → length (known b) ≤ length (known (b ++ r))
known_longer b r = omega (arith, length-append b r, length-append (map single basic_codes) b, length-append (map single basic_codes) (b ++ r))

module _ (limits : Limits) where
  abbrev Held : List Text → List Call → Text → Type 0
  Held b cs w = ContainerText (run limits b cs).0 (run limits b cs).1 w

  push_result : (a : Answer) (others : List Answer) (b : List Text) (t : Shape) → Result others b t → Result (a ∷ others) b t
  push_result a others b t r = record { number = r.number; given = inr r.given; whole = r.whole; text = r.text; within = r.within }

  push_text : (a : Answer) (others : List Answer) (b : List Text) (w : Text) → ContainerText others b w → ContainerText (a ∷ others) b w
  push_text a others b w r = record { shape = r.shape; result = push_result a others b r.shape r.result; container = r.container; text = r.text }

  -- what a text holds
  holds : (v w : Text) (s : Shape) → v ≡ printed s → In w (containers_of (reading v)) → (c : Shape) × Within c s × Container c × (w ≡ printed c)
  holds v w s o i = let p = map_in printed w (containers s) (rw (o, reading_printed s) at i) in let q = within s p.0 p.1 in (p.0, q.0, q.1, sym p.2)

  held : (v w : Text) (s c : Shape) → v ≡ printed s → Within c s → Container c → w ≡ printed c → In w (containers_of (reading v))
  held v w s c o i k e = rw (o, reading_printed s, e) (in_map printed c (containers s) (met i k))

  pub only : (b : List Text) → Backed b → (cs : List Call) (w : Text) → In w (run limits b cs).1 → In w b ⊎ Held b cs w
  only b k [] w i = inl i
  only b k (c ∷ cs) w i = elim (only (call limits b c).1 (done limits b k c).1 cs w i) [
    | inr r ↦ inr (push_text (call limits b c).0 (run limits (call limits b c).1 cs).0 _ w r)
    | inl j ↦ elim (done limits b k c).0 [
      | inl l ↦ inl (rw l.book at j)
      | inr t ↦ elim (in_add_all same_texts b (containers_of (reading (whole_text b c))) w (rw t.book at j)) [
        | inl h ↦ inl h
        | inr h ↦ elim (known_shape (call limits b c).1 (done limits b k c).1 (whole_text b c) t.written) [
          | inl e ↦ absurd (rw (← e, reading_empty) at h)
          | inr (s, e) ↦ let p = holds (whole_text b c) w s (sym e) h in
              inr (record {
                shape = p.0;
                result = record {
                  number = number_of (call limits b c).1 (whole_text b c);
                  given = inl t.answer;
                  whole = s;
                  text = numbered limits (call limits b c).1 (done limits b k c).1 (whole_text b c) t.written cs ∙ sym e;
                  within = p.1;
                };
                container = p.2;
                text = p.3;
              })
        ]
      ]
    ]
  ]

  pub every : (b : List Text) → Backed b → (cs : List Call) (w : Text) → Held b cs w → In w (run limits b cs).1
  every b k [] w r = absurd r.result.given
  every b k (c ∷ cs) w r = let p = r.result in elim p.given [
    | inr j ↦ every (call limits b c).1 (done limits b k c).1 cs w (record { shape = r.shape; result = record { number = p.number; given = j; whole = p.whole; text = p.text; within = p.within }; container = r.container; text = r.text })
    | inl e ↦ elim (done limits b k c).0 [
      | inl l ↦ cc l.answer
      | inr t ↦
          let m : number_of (call limits b c).1 (whole_text b c) ≡ p.number = cc t.answer in
          let o : whole_text b c ≡ printed p.whole = cc (p.text, numbered limits (call limits b c).1 (done limits b k c).1 (whole_text b c) t.written cs) in
          stays limits (call limits b c).1 (done limits b k c).1 cs w
          (rw t.book (add_all_in same_texts b (containers_of (reading (whole_text b c))) w (inr (held (whole_text b c) w p.whole r.shape o p.within r.container r.text))))
    ]
  ]

  -- the numbers answered are the book's
  pub answered_known : (b : List Text) → Backed b → (cs : List Call) (n : ℕ) → In (accepted n) (run limits b cs).0 → n < length (known (run limits b cs).1)
  answered_known b k [] n i = absurd i
  answered_known b k (c ∷ cs) n i = elim i [
    | inr j ↦ answered_known (call limits b c).1 (done limits b k c).1 cs n j
    | inl e ↦ elim (done limits b k c).0 [
      | inl l ↦ cc l.answer
      | inr t ↦
          let m : number_of (call limits b c).1 (whole_text b c) ≡ n = cc t.answer in
          let p = place_in same_texts (known (call limits b c).1) (whole_text b c) [] t.written in
          let q = longer_run limits (call limits b c).1 (done limits b k c).1 cs in
          let h : length (known (call limits b c).1) ≤ length (known (run limits (call limits b c).1 cs).1) = rw q.1 (known_longer (call limits b c).1 q.0) in
          omega (arith, p.0, m)
    ]
  ]

-- no text stands twice
pub distinct_right : {A : Type 0} (xs ys : List A) → Distinct (xs ++ ys) → Distinct ys
distinct_right [] ys d = d
distinct_right (x ∷ xs) ys d = distinct_right xs ys d.1

backed_distinct : (b : List Text) → Backed b → Distinct b
backed_distinct b k = subst Distinct k.texts (distinct_texts k.ss (distinct_right basics k.ss k.sound.apart))

pub known_distinct : (b : List Text) → Backed b → Distinct (known b)
known_distinct b k = subst (λ (z : List Text). Distinct (known z)) k.texts (known_apart k.ss k.sound.apart)

-- the tails
same_tails : Decides (same_list same_text)
same_tails = same_lists same_texts

abbrev tails_at : Text → List (List Text)
tails_at w = tails (fields_of (reading w))

-- all tails, one list of fields after another
tails_are : (T : List (List Text)) (b : List Text) → tails_from T b ≡ add_all (same_list same_text) T (flat_map tails_at b)
tails_are T [] = refl
tails_are T (w ∷ b) = tails_are (add_all (same_list same_text) T (tails_at w)) b ∙ sym (add_all_append same_tails T (tails_at w) (flat_map tails_at b))

tails_distinct : (T : List (List Text)) (b : List Text) → Distinct T → Distinct (tails_from T b)
tails_distinct T b d = rw (tails_are T b) (distinct_add_all same_tails T (flat_map tails_at b) d)

-- a tail is one of the fields of a container that is held
tail_of : (answers : List Answer) (b : List Text) → ((w : Text) → In w b → ContainerText answers b w) → (t : List Text) → In t (tails_of b) → Tail answers b t
tail_of answers b h t i = elim (in_add_all same_tails [] (flat_map tails_at b) t (rw (tails_are [] b) at i)) [
  | inl j ↦ absurd j
  | inr j ↦ let r = flat_in tails_at t b j in let c = h r.0 r.1 in
      let f : fields_of (reading r.0) ≡ map printed (fields c.shape) = ap (λ (z : Text). fields_of (reading z)) c.text ∙ ap fields_of (reading_printed c.shape) in
      let q = tail_in (fields_of (reading r.0)) t r.2 in
      record { shape = c.shape; result = c.result; before = q.0; list = sym f ∙ q.1; filled = q.2 }
]

-- what has fields is a container
with_fields : (s : Shape) (before t : List Text) → map printed (fields s) ≡ before ++ t → (t ≡ [] → ⊥) → Container s
with_fields (basic c h) [] t e n = absurd (n (sym e))
with_fields (basic c h) (x ∷ before) t e n = cc
with_fields s before t e n = tt

of_tail : (answers : List Answer) (b : List Text) → ((w : Text) → ContainerText answers b w → In w b) → (t : List Text) → Tail answers b t → In t (tails_of b)
of_tail answers b h t r =
    let i : In (printed r.shape) b = h (printed r.shape) (record { shape = r.shape; result = r.result; container = with_fields r.shape r.before t r.list r.filled; text = refl }) in
    rw (tails_are [] b) (add_all_in same_tails [] (flat_map tails_at b) t
    (inr (in_flat tails_at t (printed r.shape) b i (rw (reading_printed r.shape, r.list) (in_tail r.before t r.filled)))))

-- the book stays within its room
abbrev Fits : Limits → List Text → Type 0
Fits limits b = (length b ≤ limits.types) × (length (tails_of b) ≤ limits.fields)

fits_call : (limits : Limits) (b : List Text) → Fits limits b → (c : Call) → Fits limits (call limits b c).1
unfolding call
fits_call limits b room c = go (early c (length b) else late limits (needed b (whole_text b c))) refl
  where
    go : (o : Refusing) → (early c (length b) else late limits (needed b (whole_text b c))) ≡ o → Fits limits (answered b (whole_text b c) o).1
    go (some e) h = room
    go none h = late_none limits (needed b (whole_text b c)) (else_none _ _ h).1

fits_run : (limits : Limits) (b : List Text) → Fits limits b → (cs : List Call) → Fits limits (run limits b cs).1
fits_run limits b room [] = room
fits_run limits b room (c ∷ cs) = fits_run limits (call limits b c).1 (fits_call limits b room c) cs

none_yet : Backed []
none_yet = record { ns = []; ss = []; sound = start; texts = refl }

pub facts : AfterAnyCalls
facts limits cs =
    let k : Backed (run limits [] cs).1 = backed limits [] none_yet cs in
    record {
      distinct = backed_distinct (run limits [] cs).1 k;
      texts = λ w. (of w, every limits [] none_yet cs w);
      distinct_tails = tails_distinct [] (run limits [] cs).1 tt;
      tails = λ t. (tail_of (run limits [] cs).0 (run limits [] cs).1 of t, of_tail (run limits [] cs).0 (run limits [] cs).1 (every limits [] none_yet cs) t);
      types = (fits_run limits [] (omega arith) cs).0;
      fields = (fits_run limits [] (omega arith) cs).1;
      numbers = answered_known limits [] none_yet cs;
      apart = known_distinct (run limits [] cs).1 k;
    }
  where
    of : (w : Text) → In w (run limits [] cs).1 → ContainerText (run limits [] cs).0 (run limits [] cs).1 w
    of w i = elim (only limits [] none_yet cs w i) [ inl j ↦ absurd j | inr r ↦ r ]

-- nothing new
nothing_new : (limits : Limits) (b : List Text) → Fits limits b → (c : Call) → early c (length b) ≡ none → length (whole_text b c) ≤ longest_form
    → ((w : Text) → In w (containers_of (reading (whole_text b c))) → In w b) → call limits b c ≡ (accepted (number_of b (whole_text b c)), b)
unfolding call
nothing_new limits b room c e l h =
    let g : grown b (whole_text b c) ≡ b = add_all_old same_texts b (containers_of (reading (whole_text b c))) h in
    grind (arith, nat_tests, room.0, room.1)

-- one call
one_call : (limits : Limits) (b : List Text) → Backed b → Fits limits b → (c : Call) → OneMore limits b c
one_call limits b k room c = go (done limits b k c).0
  where
    lasting : (n : ℕ) → n < length (known b) → text_of (call limits b c).1 n ≡ text_of b n
    lasting n l = let p = longer_call limits b k c in ap (λ (z : List Text). text_of z n) p.1 ∙ known_keeps b p.0 n l

    go : Left b (call limits b c) ⊎ Taken b (whole_text b c) (call limits b c) → OneMore limits b c
    go (inl l) = record { refusal = λ e vs h. l.book; accepts = λ n h. cc l.answer; lasts = lasting; again = nothing_new limits b room c }
    go (inr t) = record {
      refusal = λ e vs h. cc t.answer;
      accepts = λ n h.
          let m : number_of (call limits b c).1 (whole_text b c) ≡ n = cc t.answer in
          ap (text_of (call limits b c).1) (sym m) ∙ (place_in same_texts (known (call limits b c).1) (whole_text b c) [] t.written).1;
      lasts = lasting;
      again = nothing_new limits b room c;
    }

pub one_more : OneMoreCall
one_more limits cs c = one_call limits (run limits [] cs).1 (backed limits [] none_yet cs) (fits_run limits [] (omega arith) cs) c
