-- What a maker's call comes to where its parts are filed and its form is not too long: the whole is filed, or there is no
-- room.
use Rattle.std.proofs.Common.{◌≡◌, ℕ, ◌+◌, ◌<◌, ◌≤◌, Bool, true, false, ◌||◌, eqb, ltb, ◌⊎◌, List, [], ◌∷◌, ◌++◌, map, length, Ok, Err, Result, sym, refl, ap, ◌∙◌, subst, inl, inr, append_assoc, arith}
use mathlib.Core.Option.{Option, none}
use Rattle.std.proofs.lemmas.Bool.{cases_Bool, ne_eqb, le-ltb, ltb-false}
use Rattle.grammar.specs.declared.error.Refusal.{Refusal}
use Rattle.grammar.specs.declared.error.Refusal.TheVariants.{TextTooLong, Invalid, Unknown, UnitPart, NoFields, WrongKind, FormTooLong, NoRows, ShortBuffer}
use Rattle.grammar.specs.Lists.{In, Distinct}
use Rattle.grammar.specs.Shape.{Text, basic_codes, Shape, Shapes, basic, nil, more, printed, printed_all}
use Rattle.grammar.specs.Parts.{Container, containers, containers_all}
use Rattle.grammar.specs.Refusals.{Outcome, accepted, refused, outcome, number_of}
use Rattle.grammar.proofs.ReadBack.{long}
use Rattle.book.specs.Plain.{Call, array, maybe, dict, structure, Limits, Refusing, longest_form, same_text, single, known, text_of, texts, whole_text, grown, tails_of, early, late, needed, answered, call, when, at, next, first_at, ◌else◌}
use Rattle.book.specs.Plain
use Rattle.book.proofs.Lists.{in_right, add_all_in, place_in, place_at}
use Rattle.book.proofs.NodeShapes.{same_texts}
use Rattle.book.proofs.Sound.{in_map}
use Rattle.building.specs.Building.{Fits, with, Filed, FiledAll, Comes}
use Rattle.building.proofs.Growth.{grown_with}

-- a container is among its own containers, and so in the book with it
itself : (t : Shape) → Container t → In t (containers t)
itself (basic c h) k = absurd k
itself (Shape.array t) k = in_right (Shape.array t) (containers t) (Shape.array t ∷ []) (inl refl)
itself (Shape.maybe t) k = in_right (Shape.maybe t) (containers t) (Shape.maybe t ∷ []) (inl refl)
itself (Shape.dict u v) k = in_right (Shape.dict u v) (containers u) (containers v ++ Shape.dict u v ∷ []) (in_right (Shape.dict u v) (containers v) (Shape.dict u v ∷ []) (inl refl))
itself (Shape.structure t ts) k = in_right (Shape.structure t ts) (containers t) (containers_all ts ++ Shape.structure t ts ∷ []) (in_right (Shape.structure t ts) (containers_all ts) (Shape.structure t ts ∷ []) (inl refl))

in_known : (b : List Text) (w : Text) → In w b → In w (known b)
in_known b w i = in_right w ([] ∷ map single basic_codes) b i

pub in_with : (b : List Text) (t : Shape) → Container t → In (printed t) (known (with b t))
in_with b t k = in_known (with b t) (printed t) (add_all_in same_texts b (map printed (containers t)) (printed t) (inr (in_map printed t (containers t) (itself t k))))

pub filed_by : (b : List Text) (t : Shape) (n : ℕ) → In (printed t) (known b) → n ≡ Plain.number_of b (printed t) → Filed b n t
filed_by b t n i e =
    let p = place_in same_texts (known b) (printed t) [] i in
    record { within = subst (λ (k : ℕ). k < length (known b)) (sym e) p.0; text = ap (text_of b) e ∙ p.1 }

-- the refusal whose number is 8
only_rows : (e : Refusal) → number_of e ≡ 8 → e ≡ NoRows
only_rows TextTooLong h = absurd (omega arith)
only_rows (Invalid f) h = absurd (omega arith)
only_rows (Unknown p) h = absurd (omega arith)
only_rows (UnitPart p) h = absurd (omega arith)
only_rows NoFields h = absurd (omega arith)
only_rows WrongKind h = absurd (omega arith)
only_rows FormTooLong h = absurd (omega arith)
only_rows NoRows h = refl
only_rows ShortBuffer h = absurd (omega arith)

same_accepted : (m n : ℕ) → ◌≡◌ {A = Outcome ℕ} (accepted m) (accepted n) → m ≡ n
same_accepted m n e = cc

same_refused : (m n : ℕ) (us vs : List ℕ) → ◌≡◌ {A = Outcome ℕ} (refused m us) (refused n vs) → m ≡ n
same_refused m n us vs e = cc

accepted_refused : (m n : ℕ) (vs : List ℕ) → ◌≡◌ {A = Outcome ℕ} (accepted m) (refused n vs) → ⊥
accepted_refused m n vs e = let z : ◌≡◌ {A = ℕ} 0 1 = cc in omega arith

pub or_false : (p q : Bool) → p ≡ false → q ≡ false → (p || q) ≡ false
or_false p q e f = rw (e, f)

or_parts : (p q : Bool) → (p || q) ≡ false → (p ≡ false) × (q ≡ false)
or_parts true q e = (e, absurd (let z : ◌≡◌ {A = ℕ} 0 1 = cc in omega arith))
or_parts false q e = (refl, e)

-- the book after an answer: a refusal leaves it as it was
abbrev pub after : Result ℕ Refusal → List Text → List Text → List Text
after (Ok n) b b' = b'
after (Err x) b b' = b

module _ (limits : Limits) (b : List Text) (c : Call) (t : Shape)
    (whole : whole_text b c ≡ printed t) (none_early : early c (length b) ≡ none) (short : length (printed t) ≤ longest_form) where
  over : Bool
  over = ltb limits.types (length (grown b (printed t))) || ltb limits.fields (length (tails_of (grown b (printed t))))

  call_is : call limits b c ≡ answered b (printed t) (when over 8)
  unfolding call over
  call_is =
      ap (λ (w : Text). answered b w (early c (length b) else late limits (needed b w))) whole
      ∙ ap (λ (e : Refusing). answered b (printed t) (e else late limits (needed b (printed t)))) none_early
      ∙ ap (λ (x : Bool). answered b (printed t) (when x 7 else when (ltb limits.types (length (grown b (printed t))) || ltb limits.fields (length (tails_of (grown b (printed t))))) 8)) (le-ltb longest_form (length (printed t)) short)

  fits_not_over : Fits limits (with b t) → over ≡ false
  unfolding over
  fits_not_over f =
      let e = grown_with b t in
      or_false _ _ (le-ltb limits.types (length (grown b (printed t))) (omega (arith, f.types, ap length e)))
      (le-ltb limits.fields (length (tails_of (grown b (printed t)))) (omega (arith, f.fields, ap (λ (z : List Text). length (tails_of z)) e)))

  not_over_fits : over ≡ false → Fits limits (with b t)
  unfolding over
  not_over_fits h =
      let e = grown_with b t in let p = or_parts (ltb limits.types (length (grown b (printed t)))) (ltb limits.fields (length (tails_of (grown b (printed t))))) h in
      record {
        types = omega (arith, ltb-false limits.types (length (grown b (printed t))) p.0, ap length e);
        fields = omega (arith, ltb-false limits.fields (length (tails_of (grown b (printed t)))) p.1, ap (λ (z : List Text). length (tails_of z)) e);
      }

  -- the call's answer and the book after it
  pub made : Container t → (r : Result ℕ Refusal) (b' : List Text) (left rest : Text) → outcome r ≡ (call limits b c).0 → b' ≡ (call limits b c).1 → left ≡ rest → Comes limits b t r b' left rest
  made box r b' left rest e f l = by r (cases_Bool over) e f
    where
      by : (r : Result ℕ Refusal) → (over ≡ true) ⊎ (over ≡ false) → outcome r ≡ (call limits b c).0 → b' ≡ (call limits b c).1 → Comes limits b t r b' left rest
      by (Ok n) (inl h) e f = absurd (accepted_refused n 8 [] (e ∙ ap (λ (z : Outcome ℕ × List Text). z.0) (call_is ∙ ap (λ (x : Bool). answered b (printed t) (when x 8)) h)))
      by (Ok n) (inr h) e f =
          let q = call_is ∙ ap (λ (x : Bool). answered b (printed t) (when x 8)) h in
          let g = grown_with b t in
          let book : b' ≡ with b t = f ∙ ap (λ (z : Outcome ℕ × List Text). z.1) q ∙ g in
          let n-is : n ≡ Plain.number_of b' (printed t) =
          same_accepted n (Plain.number_of (grown b (printed t)) (printed t)) (e ∙ ap (λ (z : Outcome ℕ × List Text). z.0) q)
          ∙ ap (λ (z : List Text). Plain.number_of z (printed t)) (g ∙ sym book) in
          record {
            book = book;
            filed = filed_by b' t n (subst (λ (z : List Text). In (printed t) (known z)) (sym book) (in_with b t box)) n-is;
            onward = l;
          }
      by (Err x) (inl h) e f = record {
        is = only_rows x (same_refused _ 8 _ [] (e ∙ ap (λ (z : Outcome ℕ × List Text). z.0) (call_is ∙ ap (λ (y : Bool). answered b (printed t) (when y 8)) h)));
        full = λ fit. let z : true ≡ false = sym h ∙ fits_not_over fit in let y : ◌≡◌ {A = ℕ} 0 1 = cc in omega arith;
      }
      by (Err x) (inr h) e f = absurd (accepted_refused _ _ _ (sym (e ∙ ap (λ (z : Outcome ℕ × List Text). z.0) (call_is ∙ ap (λ (y : Bool). answered b (printed t) (when y 8)) h))))

  -- and back: what the whole came to is the call's answer
  pub told : (r : Result ℕ Refusal) (b' : List Text) → Comes limits b t r b' [] [] → Fits limits b' → Distinct (known b') → (outcome r ≡ (call limits b c).0) × ((call limits b c).1 ≡ after r b b')
  told (Ok n) b' g f d =
      let h = fits_not_over (subst (Fits limits) g.book f) in
      let q = call_is ∙ ap (λ (x : Bool). answered b (printed t) (when x 8)) h in
      let e = grown_with b t ∙ sym g.book in
      let n-is : Plain.number_of (grown b (printed t)) (printed t) ≡ n =
      ap (λ (z : List Text). Plain.number_of z (printed t)) e ∙ ap (Plain.number_of b') (sym g.filed.text) ∙ place_at same_texts (known b') n [] d g.filed.within in
      (sym (ap (λ (z : Outcome ℕ × List Text). z.0) q ∙ ap accepted n-is), ap (λ (z : Outcome ℕ × List Text). z.1) q ∙ e)
  told (Err x) b' g f d = by (cases_Bool over)
    where
      by : (over ≡ true) ⊎ (over ≡ false) → (outcome (Err x) ≡ (call limits b c).0) × ((call limits b c).1 ≡ b)
      by (inr h) = absurd (g.full (not_over_fits h))
      by (inl h) =
          let q = call_is ∙ ap (λ (y : Bool). answered b (printed t) (when y 8)) h in
          (ap (λ (e : Refusal). outcome (Err e)) g.is ∙ sym (ap (λ (z : Outcome ℕ × List Text). z.0) q), ap (λ (z : Outcome ℕ × List Text). z.1) q)

-- The parts of a call are known, and none is Unit.
not_unit : (b : List Text) (n : ℕ) (t : Shape) → Filed b n t → n ≡ 0 → ⊥
not_unit b n t f e = let h = ap length (sym f.text ∙ ap (text_of b) e) in omega (arith, h, long t)

known_count : (b : List Text) (n : ℕ) → n < length (known b) → n ≤ 14 + length b
known_count b n h = omega arith

pub early_array : (b : List Text) (n : ℕ) (t : Shape) → Filed b n t → early (array n) (length b) ≡ none
early_array b n t f = rw (le-ltb (14 + length b) n (known_count b n f.within), ne_eqb n 0 (not_unit b n t f))

pub early_maybe : (b : List Text) (n : ℕ) (t : Shape) → Filed b n t → early (maybe n) (length b) ≡ none
early_maybe b n t f = rw (le-ltb (14 + length b) n (known_count b n f.within), ne_eqb n 0 (not_unit b n t f))

pub early_dict : (b : List Text) (n m : ℕ) (t u : Shape) → Filed b n t → Filed b m u → early (dict n m) (length b) ≡ none
early_dict b n m t u f g =
    rw (le-ltb (14 + length b) n (known_count b n f.within), le-ltb (14 + length b) m (known_count b m g.within), ne_eqb n 0 (not_unit b n t f), ne_eqb m 0 (not_unit b m u g))

all_known : (b : List Text) (ns : List ℕ) (ts : Shapes) → FiledAll b ns ts → first_at (λ n. ltb (14 + length b) n) ns ≡ none
all_known b [] ts f = refl
all_known b (n ∷ ns) nil f = absurd f
all_known b (n ∷ ns) (more t ts) f = rw (le-ltb (14 + length b) n (known_count b n f.0.within)) (ap next (all_known b ns ts f.1))

all_parts : (b : List Text) (ns : List ℕ) (ts : Shapes) → FiledAll b ns ts → first_at (λ n. eqb n 0) ns ≡ none
all_parts b [] ts f = refl
all_parts b (n ∷ ns) nil f = absurd f
all_parts b (n ∷ ns) (more t ts) f = rw (ne_eqb n 0 (not_unit b n t f.0)) (ap next (all_parts b ns ts f.1))

pub early_structure : (b : List Text) (ns : List ℕ) (t : Shape) (ts : Shapes) → FiledAll b ns (more t ts) → early (structure ns) (length b) ≡ none
early_structure b [] t ts f = absurd f
early_structure b (n ∷ ns) t ts f =
    ap (λ (o : Option ℕ). at 3 o else at 4 (first_at (λ k. eqb k 0) (n ∷ ns)) else none) (all_known b (n ∷ ns) (more t ts) f)
    ∙ ap (λ (o : Option ℕ). at 4 o else none) (all_parts b (n ∷ ns) (more t ts) f)

all_texts : (b : List Text) (ns : List ℕ) (ts : Shapes) → FiledAll b ns ts → texts b ns ≡ printed_all ts
all_texts b [] nil f = refl
all_texts b [] (more t ts) f = absurd f
all_texts b (n ∷ ns) nil f = absurd f
all_texts b (n ∷ ns) (more t ts) f = ap (λ (z : Text). z ++ texts b ns) f.0.text ∙ ap (λ (z : Text). printed t ++ z) (all_texts b ns ts f.1)

pub whole_array : (b : List Text) (n : ℕ) (t : Shape) → Filed b n t → whole_text b (array n) ≡ printed (Shape.array t)
whole_array b n t f = ap (λ (z : Text). 97 ∷ z) f.text

pub whole_maybe : (b : List Text) (n : ℕ) (t : Shape) → Filed b n t → whole_text b (maybe n) ≡ printed (Shape.maybe t)
whole_maybe b n t f = ap (λ (z : Text). 109 ∷ z) f.text

pub whole_dict : (b : List Text) (n m : ℕ) (t u : Shape) → Filed b n t → Filed b m u → whole_text b (dict n m) ≡ printed (Shape.dict t u)
whole_dict b n m t u f g = ap (λ (z : Text). 97 ∷ 123 ∷ (z ++ (text_of b m ++ 125 ∷ []))) f.text ∙ ap (λ (z : Text). 97 ∷ 123 ∷ (printed t ++ (z ++ 125 ∷ []))) g.text

pub whole_structure : (b : List Text) (ns : List ℕ) (t : Shape) (ts : Shapes) → FiledAll b ns (more t ts) → whole_text b (structure ns) ≡ printed (Shape.structure t ts)
whole_structure b ns t ts f = ap (λ (z : Text). 40 ∷ (z ++ 41 ∷ [])) (all_texts b ns (more t ts) f) ∙ ap (λ (z : Text). 40 ∷ z) (append_assoc (printed t) (printed_all ts) (41 ∷ []))
