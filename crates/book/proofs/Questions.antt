-- The questions, answered from the texts and from the nodes, have the same answers.
use Rattle.std.proofs.Common.{inl, inr, ◌≡◌, ℕ, zero, suc, ◌+◌, ◌-◌, ◌<◌, ◌≤◌, true, cond, eqb, ltb, List, [], ◌∷◌, map, length, get_or, Some, sym, refl, ap, ◌∙◌, arith}
use mathlib.Core.Option.{Option, none, some}
use native.Mathlib.Decide.{dec_lt}
use lib.ListN.{length-map}
use Rattle.std.proofs.lemmas.List.{get_or_append_left, get_or-map}
use Rattle.std.proofs.lemmas.Bool.Decides.{nat_tests}
use Rattle.std.proofs.lemmas.Bool.{eq-eqb, eqb-true, lt-ltb, le-ltb, cases_lt}
use Rattle.grammar.specs.declared.figures.Figures.{Figures}
use Rattle.grammar.specs.Shape.{Text, is_basic, Shape, basic, printed}
use Rattle.grammar.specs.Parts.{fields}
use Rattle.grammar.specs.Figures.{gvariant_of_code, gvariant_alignment, text_figures}
use Rattle.grammar.specs.Read.{reading}
use Rattle.grammar.specs.Refusals.{Outcome, accepted, refused}
use Rattle.grammar.proofs.ReadBack.{reading_printed, reading_empty}
use Rattle.book.specs.Plain.{known, same_text, text_of, number_of}
use Rattle.book.specs.Nodes.{Node, array, maybe, dict, structure, figures_from, figures_at, basics, byte, shapes_from, shape_at, node_shape, Part, Known, texts_of}
use Rattle.book.specs.Agree.{Good}
use Rattle.book.specs.Questions.{if_known, child_by, key_by, value_by, fields_by, number_at, child_of, key_of, value_of, len_of, get_of, figure_of, Format, alignment_in, alignment, alignment_of, equal_of, node_answer, node_child, node_dict_key, node_dict_value, node_fields, item_at, node_len, node_get, figure_answer, alignment_answer, equal_answer}
use Rattle.std.proofs.lemmas.Slice.Zip.{AllZip-long}
use Rattle.std.specs.List.{AllZip}
use Rattle.book.proofs.Lists.{distinct_at, all_in, in_get_d, get_or2}
use Rattle.book.proofs.NodeShapes.{bool_same, same_texts, Num, Row, basics_count, at_shape}
use Rattle.book.proofs.Figured.{shape_figures}
use Rattle.book.proofs.Sound.{Sound, as_many, Code, basics_codes}
use Rattle.book.proofs.Interned.{text_is, known_apart}
use Rattle.book.proofs.Tails.{node_fields_are}
use Rattle.book.proofs.TextFigures.{text_figures_are}
use Rattle.book.proofs.Rows.{number_at_is}
use Rattle.book.proofs.Agree.{good_sound}

pub texts_count : (ns : List Node) → Good ns → length (texts_of ns) ≡ length ns
texts_count ns g = length-map (shapes_from [] ns) printed ∙ sym (as_many ns (shapes_from [] ns) (good_sound ns g))

-- what is asked of a known number
if_known_is : {A : Type 0} (ns : List Node) → Good ns → (n : ℕ) (x y : Outcome A) → (n < 15 + length ns → x ≡ y) → if_known (length (texts_of ns)) n x ≡ if_known (length ns) n y
if_known_is ns g n x y h = rw (texts_count ns g) (grind (arith, nat_tests, h))

code_at : (ss : List Shape) (n : ℕ) → 0 < n → n < 15 → Code (shape_at ss n)
code_at ss n p l = let c = basics_count in
    rw (get_or_append_left basics ss byte (n - 1) (omega arith)) (all_in Code basics (get_or basics (n - 1) byte) basics_codes (in_get_d basics (n - 1) byte (omega arith)))

-- the text of a number from 15 on is that of its node, whatever the default
row_at : (ns : List Node) (ss : List Shape) → Sound ns ss → (n : ℕ) (d : Node) → 15 ≤ n → n < 15 + length ns → Row ss (get_or ns (n - 15) d) (text_of (map printed ss) n)
row_at ns ss s n d l h =
    let e = as_many ns ss s in
    let r = get_or2 (Row ss) ns (map printed ss) (n - 15) d [] (omega arith) s.each in
    (r.0, text_is ss n (omega arith) ∙ ap printed (at_shape ss n l) ∙ sym (get_or-map printed ss (n - 15) byte [] (omega arith)) ∙ r.1)

pub text_at : (ns : List Node) → Good ns → (n : ℕ) (d : Node) → 15 ≤ n → n < 15 + length ns → text_of (texts_of ns) n ≡ printed (node_shape (shapes_from [] ns) (get_or ns (n - 15) d))
text_at ns g n d l h = (row_at ns (shapes_from [] ns) (good_sound ns g) n d l h).1

module _ (ns : List Node) (g : Good ns) where
  module _ {A : Type 0} (q : Option Shape → Outcome A) (p : Node → Outcome A) (no_text : q none ≡ refused 6 []) (code : (c : ℕ) (h : is_basic c ≡ true) → q (some (basic c h)) ≡ refused 6 [])
      (node : (x : Node) → Known (length (shapes_from [] ns)) x → q (some (node_shape (shapes_from [] ns) x)) ≡ p x) where
    of_code : (t : Shape) → Code t → q (some t) ≡ refused 6 []
    of_code (basic c h) k = code c h
    of_code t k = absurd k

    asked : (n : ℕ) → if_known (length (texts_of ns)) n (q (reading (text_of (texts_of ns) n))) ≡ node_answer p ns n
    asked n = if_known_is ns g n (q (reading (text_of (texts_of ns) n))) (cond (ltb n 15) (refused 6 []) (p (get_or ns (n - 15) (array 0)))) (go n (dec_lt n 15))
      where
        go : (n : ℕ) → Dec (n < 15) → n < 15 + length ns → q (reading (text_of (texts_of ns) n)) ≡ cond (ltb n 15) (refused 6 []) (p (get_or ns (n - 15) (array 0)))
        go zero d h = ap q reading_empty ∙ no_text
        go (suc n) (yes l) h =
            rw (lt-ltb (suc n) 15 l) (ap (λ (w : Text). q (reading w)) (text_is (shapes_from [] ns) (suc n) (omega arith)) ∙ ap q (reading_printed (shape_at (shapes_from [] ns) (suc n))) ∙ of_code (shape_at (shapes_from [] ns) (suc n)) (code_at (shapes_from [] ns) (suc n) (omega arith) l))
        go (suc n) (no l) h =
            let r = row_at ns (shapes_from [] ns) (good_sound ns g) (suc n) (array 0) (omega arith) h in
            rw (le-ltb (suc n) 15 (omega arith)) (ap (λ (w : Text). q (reading w)) r.1 ∙ ap q (reading_printed (node_shape (shapes_from [] ns) (get_or ns (suc n - 15) (array 0)))) ∙ node (get_or ns (suc n - 15) (array 0)) r.0)

  number : (n : ℕ) → Part (length (shapes_from [] ns)) n → number_of (texts_of ns) (printed (shape_at (shapes_from [] ns) n)) ≡ n
  number = number_at_is ns (shapes_from [] ns) (good_sound ns g)

  pub child_agrees : (n : ℕ) → child_of (texts_of ns) n ≡ node_answer node_child ns n
  unfolding child_of
  child_agrees = asked (child_by (texts_of ns)) node_child refl (λ c h. refl) node
    where
      node : (x : Node) → Known (length (shapes_from [] ns)) x → child_by (texts_of ns) (some (node_shape (shapes_from [] ns) x)) ≡ node_child x
      node (array n) k = ap accepted (number n k)
      node (maybe n) k = ap accepted (number n k)
      node (structure []) k = absurd k
      node x k = refl

  pub key_agrees : (n : ℕ) → key_of (texts_of ns) n ≡ node_answer node_dict_key ns n
  unfolding key_of
  key_agrees = asked (key_by (texts_of ns)) node_dict_key refl (λ c h. refl) node
    where
      node : (x : Node) → Known (length (shapes_from [] ns)) x → key_by (texts_of ns) (some (node_shape (shapes_from [] ns) x)) ≡ node_dict_key x
      node (dict a b) k = ap accepted (number a k.0)
      node (structure []) k = absurd k
      node x k = refl

  pub value_agrees : (n : ℕ) → value_of (texts_of ns) n ≡ node_answer node_dict_value ns n
  unfolding value_of
  value_agrees = asked (value_by (texts_of ns)) node_dict_value refl (λ c h. refl) node
    where
      node : (x : Node) → Known (length (shapes_from [] ns)) x → value_by (texts_of ns) (some (node_shape (shapes_from [] ns) x)) ≡ node_dict_value x
      node (dict a b) k = ap accepted (number b k.1)
      node (structure []) k = absurd k
      node x k = refl

  -- a question about the fields
  of_fields : {A : Type 0} (f : List Text → Outcome A) (h : List ℕ → Outcome A) → ((t : List ℕ) (u : List Text) → AllZip (Num (shapes_from [] ns)) t u → f u ≡ h t)
      → (x : Node) → Known (length (shapes_from [] ns)) x → fields_by f (some (node_shape (shapes_from [] ns) x)) ≡ node_fields h x
  of_fields f h e (structure []) k = absurd k
  of_fields f h e (structure (n ∷ fs)) k = e (n ∷ fs) (map printed (fields (node_shape (shapes_from [] ns) (structure (n ∷ fs))))) (node_fields_are (shapes_from [] ns) (structure (n ∷ fs)) k)
  of_fields f h e x k = refl

  pub len_agrees : (n : ℕ) → len_of (texts_of ns) n ≡ node_answer node_len ns n
  unfolding len_of
  len_agrees = asked (fields_by (λ fs. accepted (length fs))) node_len refl (λ c h. refl) (of_fields (λ fs. accepted (length fs)) (λ fs. accepted (length fs)) (λ t u a. ap accepted (AllZip-long (Num (shapes_from [] ns)) t u a)))

  item : (i : ℕ) (t : List ℕ) (u : List Text) → AllZip (Num (shapes_from [] ns)) t u → number_at (texts_of ns) u i ≡ item_at t i
  item i t u a = let l = AllZip-long (Num (shapes_from [] ns)) t u a in elim (cases_lt i (length t)) [
    | inl h ↦ let r = get_or2 (Num (shapes_from [] ns)) t u i 0 [] h a in
        rw (lt-ltb i (length t) h, lt-ltb i (length u) (omega arith)) (ap Some (ap (number_of (texts_of ns)) r.1 ∙ number (get_or t i 0) r.0))
    | inr h ↦ rw (le-ltb i (length t) h, le-ltb i (length u) (omega arith))
  ]

  pub get_agrees : (n i : ℕ) → get_of (texts_of ns) n i ≡ node_answer (node_get i) ns n
  unfolding get_of
  get_agrees n i = asked (fields_by (λ fs. accepted (number_at (texts_of ns) fs i))) (node_get i) refl (λ c h. refl) (of_fields (λ fs. accepted (number_at (texts_of ns) fs i)) (λ fs. accepted (item_at fs i)) (λ t u a. ap accepted (item i t u a))) n

  pub figure_agrees : {A : Type 0} (f : Figures → A) (n : ℕ) → figure_of f (texts_of ns) n ≡ figure_answer f ns n
  unfolding figure_of
  figure_agrees f n = if_known_is ns g n (accepted (f (text_figures (text_of (texts_of ns) n)))) (accepted (f (figures_at (figures_from [] ns) n))) (λ l. ap (λ (x : Figures). accepted (f x)) (text_figures_are ns g n l))

  pub alignment_agrees : (format : Format) (n : ℕ) → alignment_of format (texts_of ns) n ≡ alignment_answer format ns n
  unfolding alignment_of
  alignment_agrees format n =
      if_known_is ns g n (alignment (alignment_in format (text_figures (text_of (texts_of ns) n)))) (alignment (alignment_in format (figures_at (figures_from [] ns) n)))
      (λ l. ap (λ (x : Figures). alignment (alignment_in format x)) (text_figures_are ns g n l))

  same_number : (m n : ℕ) → m < 15 + length ns → n < 15 + length ns → same_text (text_of (texts_of ns) m) (text_of (texts_of ns) n) ≡ eqb m n
  same_number m n p q =
      let l = texts_count ns g in
      bool_same (same_text (text_of (texts_of ns) m) (text_of (texts_of ns) n)) (eqb m n)
      (λ h. eq-eqb m n (distinct_at (known (texts_of ns)) m n [] (known_apart (shapes_from [] ns) (good_sound ns g).apart) (omega arith) (omega arith) (same_texts.so _ _ h)))
      (λ h. rw (eqb-true m n h) (same_texts.self (text_of (texts_of ns) n)))

  pub equal_agrees : (m n : ℕ) → equal_of (texts_of ns) m n ≡ equal_answer ns m n
  unfolding equal_of
  equal_agrees m n = if_known_is ns g m _ _ (λ l. rw (texts_count ns g) (grind (arith, nat_tests, same_number m n l)))

-- What is asked of a number that is not known.
module _ {A : Type 0} (q : Node → Outcome A) (ns : List Node) where
  pub answer_unknown : (n : ℕ) → 15 + length ns ≤ n → node_answer q ns n ≡ refused 3 (0 ∷ [])
  answer_unknown n l = rw (le-ltb n (15 + length ns) l)

-- Each signature has an alignment in GVariant.
code_aligned : (c : ℕ) → 0 < gvariant_of_code c
code_aligned c = grind arith

shape_aligned : (t : Shape) → 0 < gvariant_alignment t
shape_aligned (basic c h) = code_aligned c
shape_aligned (Shape.array t) = shape_aligned t
shape_aligned (Shape.maybe t) = shape_aligned t
shape_aligned (Shape.dict k v) = omega (arith, shape_aligned k)
shape_aligned (Shape.structure t ts) = omega (arith, shape_aligned t)

pub gvariant_aligned : (ns : List Node) → Good ns → (n : ℕ) → n < 15 + length ns → 0 < (figures_at (figures_from [] ns) n).gvariant
gvariant_aligned ns g zero l = omega arith
gvariant_aligned ns g (suc n) l = let e = as_many ns (shapes_from [] ns) (good_sound ns g) in
    rw ((good_sound ns g).figures, shape_figures (shapes_from [] ns) (suc n) (omega arith)) (shape_aligned (shape_at (shapes_from [] ns) (suc n)))
