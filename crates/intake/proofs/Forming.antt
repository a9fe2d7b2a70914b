-- A printed form put into a buffer that is long enough.
use Rattle.std.proofs.Common.{◌≡◌, ℕ, ◌+◌, ◌<◌, ◌≤◌, Bool, true, cond, ltb, ◌⊎◌, List, [], ◌∷◌, length, take, drop, sym, refl, ap, ◌∙◌, subst, ap₂, inl, inr, arith, le-ltb, lt-ltb}
use mathlib.Core.Option.{Option}
use Rattle.std.specs.Prelude.{Result, Ok, Err}
use Rattle.grammar.specs.declared.error.Refusal.{Refusal}
use Rattle.std.proofs.lemmas.Bool.{ltb-true}
use lib.Seq.{take-append-le}
use Rattle.std.proofs.lemmas.List.{take_all}
use Rattle.grammar.specs.Shape.{Text, Shape, printed}
use Rattle.grammar.specs.Figures.{figures_by, text_figures}
use Rattle.grammar.proofs.ReadBack.{reading_printed, reading_empty}
use Rattle.grammar.specs.declared.figures.Figures.{Figures}
use Rattle.grammar.specs.Refusals.{Outcome, accepted, refused, outcome}
use Rattle.book.specs.Plain.{Call, known, text_of}
use Rattle.book.specs.Nodes.{shapes_from}
use Rattle.book.specs.Questions.{figure_of}
use Rattle.book.proofs.Agree.{good_sound}
use Rattle.book.proofs.Lists.{in_get_d}
use Rattle.book.proofs.Backed.{Backed, known_shape}
use Rattle.book.proofs.Histories.{answered_known}
use Rattle.sheet.specs.declared.sheet.Sheet.{Sheet}
use Rattle.layout.specs.Kept.{nodes_of}
use Rattle.layout.specs.Called.{book_of, limits_of, Called}
use Rattle.sheet.proofs.Texts.{good_book}
use Rattle.sheet.specs.Seen.{book_in}
use Rattle.printing.specs.Forms.{into_of, into_after}

module _ (b : List Text) (n : ℕ) (w : Text) (space : ℕ) (k : ltb n (15 + length b) ≡ true) (h : length w ≤ space) where
  filled : into_of b n w space ≡ accepted (length w)
  unfolding into_of
  filled = ap₂ (λ (x y : Bool). cond x (cond y (refused 9 []) (accepted (length w))) (refused 3 (0 ∷ []))) k (le-ltb space (length w) h)

  pub whole : (r : Result ℕ Refusal) → outcome r ≡ into_of b n w space → r ≡ Ok (length w)
  whole (Ok c) q = let e = q ∙ filled in cc
  whole (Err e) q = let z = q ∙ filled in cc

pub front : (w old new : List ℕ) (r : Result ℕ Refusal) → r ≡ Ok (length w) → new ≡ into_after (outcome r) w old → take (length w) new ≡ w
front w old new r e a = rw (a, e) (take-append-le (length w) w (drop (length w) old) (omega arith) ∙ take_all (length w) w (omega arith))

-- An accepted number is known.
backed : (s : Sheet) → Backed (book_of s.types s.fields)
backed s = record { ns = nodes_of s.types s.fields; ss = shapes_from [] (nodes_of s.types s.fields); sound = good_sound (nodes_of s.types s.fields) (good_book s); texts = refl }

pub known_after : (s s' : Sheet) (n : ℕ) (c : Call) → Called s.types s.fields s'.types s'.fields (accepted n) c → ltb n (15 + length (book_in s')) ≡ true
known_after s s' n c m =
    let l = limits_of s.types s.fields in
    let b = book_of s.types s.fields in
    let i = answered_known (limits_of s.types s.fields) (book_of s.types s.fields) (backed s) (c ∷ []) n (inl (sym m.answer)) in
    lt-ltb n (15 + length (book_of s'.types s'.fields)) (omega (arith, i, ap length m.book))

-- The figures of a known number.
module _ (s : Sheet) (n : ℕ) (k : ltb n (15 + length (book_in s)) ≡ true) where
  figured : figure_of (λ z. z) (book_in s) n ≡ accepted (text_figures (text_of (book_in s) n))
  unfolding figure_of
  figured = ap (λ (x : Bool). cond x (accepted (text_figures (text_of (book_in s) n))) (refused 3 (0 ∷ []))) k

  pub figures_are : (f : Figures) → accepted f ≡ figure_of (λ z. z) (book_in s) n → f ≡ text_figures (text_of (book_in s) n)
  figures_are f h = let z = h ∙ figured in cc

  pub never_unknown : (e : ℕ) (vs : List ℕ) → ◌≡◌ {A = Outcome Figures} (refused e vs) (figure_of (λ z. z) (book_in s) n) → ⊥
  never_unknown e vs h = let z = h ∙ figured in cc

-- The length among the figures is that of the text.
shape_long : (w : Text) → ([] ≡ w) ⊎ ((t : Shape) × (printed t ≡ w)) → (text_figures w).length ≡ length w
unfolding text_figures
shape_long w (inl e) = subst (λ (z : Text). (text_figures z).length ≡ length z) e (ap (λ (o : Option Shape). (figures_by o).length) reading_empty)
shape_long w (inr (t, e)) = subst (λ (z : Text). (text_figures z).length ≡ length z) e (ap (λ (o : Option Shape). (figures_by o).length) (reading_printed t))

pub text_long : (s : Sheet) (n : ℕ) → ltb n (15 + length (book_in s)) ≡ true → (text_figures (text_of (book_in s) n)).length ≡ length (text_of (book_in s) n)
text_long s n k =
    let b = book_of s.types s.fields in
    let l : n < length (known (book_of s.types s.fields)) = omega (arith, ltb-true n (15 + length (book_of s.types s.fields)) k) in
    shape_long (text_of b n) (known_shape b (backed s) (text_of b n) (in_get_d (known b) n [] l))
