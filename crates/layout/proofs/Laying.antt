-- The tails that field rows hold, and a row more for a new tail.
use Rattle.std.proofs.Common.{◌≡◌, ℕ, zero, suc, ◌+◌, ◌<◌, ◌≤◌, List, [], ◌∷◌, ◌++◌, length, get_or, drop, sym, refl, ap, ◌∙◌, subst, zero-add, add-one, arith}
use Rattle.std.proofs.lemmas.List.{length_push, get_or_push, get_or_append_left}
use Rattle.std.proofs.lemmas.Grind.{common_steps}
use Rattle.grammar.specs.Lists.{place, add}
use Rattle.book.specs.Makers.{add_tails}
use Rattle.layout.specs.declared.row.FieldRow.{FieldRow}
use Rattle.book.specs.Rows.{tail_number, tail_key}
use Rattle.layout.specs.Tails.{blank_field, field_key, same_tail, tail_at, row_tails_from, row_tails, FieldsGood}
use Rattle.layout.proofs.Places.{tail_tells, place_none, place_at, place_hit, place_more, place_le}
use Rattle.layout.proofs.Keep.{each_push}

pub tails_push : (T : List (List ℕ)) (F : List FieldRow) (r : FieldRow) → row_tails_from T (F ++ r ∷ []) ≡ row_tails_from T F ++ (r.field ∷ tail_at (row_tails_from T F) r.next) ∷ []
unfolding row_tails_from
tails_push T [] r = refl
tails_push T (x ∷ F) r = tails_push (T ++ (x.field ∷ tail_at T x.next) ∷ []) F r

tails_long_from : (T : List (List ℕ)) (F : List FieldRow) → length (row_tails_from T F) ≡ length T + length F
unfolding row_tails_from
tails_long_from T [] = omega arith
tails_long_from T (x ∷ F) = tails_long_from (T ++ (x.field ∷ tail_at T x.next) ∷ []) F ∙ omega (arith, length_push T (x.field ∷ tail_at T x.next))

pub tails_long : (F : List FieldRow) → length (row_tails F) ≡ length F
tails_long F = tails_long_from [] F ∙ zero-add (length F)

tails_front : (T : List (List ℕ)) (F : List FieldRow) (j : ℕ) → j < length T → get_or (row_tails_from T F) j [] ≡ get_or T j []
unfolding row_tails_from
tails_front T [] j h = refl
tails_front T (x ∷ F) j h =
    tails_front (T ++ (x.field ∷ tail_at T x.next) ∷ []) F j (omega (arith, length_push T (x.field ∷ tail_at T x.next)))
    ∙ get_or_append_left T ((x.field ∷ tail_at T x.next) ∷ []) [] j h

tail_front : (T : List (List ℕ)) (F : List FieldRow) (n : ℕ) → n ≤ length T → tail_at (row_tails_from T F) n ≡ tail_at T n
tail_front T F zero h = refl
tail_front T F (suc n) h = tails_front T F n h

tails_at_from : (T : List (List ℕ)) (F : List FieldRow) (k m : ℕ) → m ≡ length T + k → k < length F → (get_or F k blank_field).next ≤ m
    → get_or (row_tails_from T F) m [] ≡ (get_or F k blank_field).field ∷ tail_at (row_tails_from T F) (get_or F k blank_field).next
unfolding row_tails_from
tails_at_from T [] k m e l h = absurd (omega arith)
tails_at_from T (x ∷ F) zero m e l h =
    let t : List ℕ = x.field ∷ tail_at T x.next in
    let e' : length T ≡ m = omega arith in
    let lp : m < length (T ++ t ∷ []) = omega (arith, length_push T t) in
    tails_front (T ++ t ∷ []) F m lp ∙ get_or_push T t [] m e'
    ∙ ap (λ (u : List ℕ). x.field ∷ u) (sym (tail_front T (x ∷ F) x.next (omega arith)))
tails_at_from T (x ∷ F) (suc k) m e l h =
    tails_at_from (T ++ (x.field ∷ tail_at T x.next) ∷ []) F k m (omega (arith, length_push T (x.field ∷ tail_at T x.next))) (omega arith) h

pub tails_at_is : (F : List FieldRow) → FieldsGood F → (k : ℕ) → k < length F → get_or (row_tails F) k [] ≡ (get_or F k blank_field).field ∷ tail_at (row_tails F) (get_or F k blank_field).next
tails_at_is F g k l = tails_at_from [] F k k (sym (zero-add k)) l (g.next k l)

pub tail_hit : (T : List (List ℕ)) (fs : List ℕ) → tail_number T fs ≤ length T → tail_at T (tail_number T fs) ≡ fs
tail_hit T [] h = refl
tail_hit T (f ∷ fs) h = rw add-one (place_hit same_tail tail_tells [] T (f ∷ fs) (omega arith))

pub tail_more : (T : List (List ℕ)) (fs y : List ℕ) → tail_number T fs ≤ length T → tail_number (T ++ y ∷ []) fs ≡ tail_number T fs
tail_more T [] y h = refl
tail_more T (f ∷ fs) y h = ap (λ (m : ℕ). m + 1) (place_more same_tail tail_tells T (f ∷ fs) y (omega arith))

-- A row for the list f ∷ fs, whose tail has its place.
abbrev pub row_of : List (List ℕ) → ℕ → List ℕ → FieldRow
row_of T f fs = record { field = f; next = tail_number T fs; count = suc (length fs) }

pub row_held : (F : List FieldRow) (f : ℕ) (fs : List ℕ) → FieldsGood F → tail_number (row_tails F) fs ≤ length (row_tails F) → (i : ℕ) → i < length F
    → field_key (get_or F i blank_field) ≡ f ∷ tail_number (row_tails F) fs ∷ suc (length fs) ∷ [] → place same_tail (row_tails F) (f ∷ fs) ≡ i
row_held F f fs g p i l e =
    let here : get_or (row_tails F) i [] ≡ f ∷ fs =
    tails_at_is F g i l ∙ ap (λ (k : List ℕ). get_or k 0 0 ∷ tail_at (row_tails F) (get_or k 1 0)) e ∙ ap (λ (u : List ℕ). f ∷ u) (tail_hit (row_tails F) fs p) in
    place_at same_tail tail_tells [] (row_tails F) (f ∷ fs) i (omega (arith, tails_long F)) here (λ j h q. g.apart j i h l (q ∙ sym here))

pub row_none : (F : List FieldRow) (f : ℕ) (fs : List ℕ) → FieldsGood F
    → ((k : ℕ) → k < length F → field_key (get_or F k blank_field) ≡ f ∷ tail_number (row_tails F) fs ∷ suc (length fs) ∷ [] → ⊥) → place same_tail (row_tails F) (f ∷ fs) ≡ length (row_tails F)
row_none F f fs g absent =
    place_none same_tail tail_tells [] (row_tails F) (f ∷ fs) (λ j h e. let l : j < length F = omega (arith, tails_long F) in absent j l (g.keys j l ∙ ap (tail_key (row_tails F)) e))

pub add_grows : (T : List (List ℕ)) (t : List ℕ) → length T ≤ length (add same_tail T t)
add_grows T t = grind (arith, common_steps)

pub add_tails_grows : (T : List (List ℕ)) (i : ℕ) (fs : List ℕ) → length (add_tails T (drop i fs)) ≤ length (add_tails T fs)
add_tails_grows T zero fs = omega arith
add_tails_grows T (suc i) [] = omega arith
add_tails_grows T (suc i) (f ∷ fs) = omega (arith, add_tails_grows T i fs, add_grows (add_tails T fs) (f ∷ fs))

key_more : (F : List FieldRow) (y : List ℕ) → FieldsGood F → (k : ℕ) → k < length F
    → tail_key (row_tails F) (get_or (row_tails F) k []) ≡ tail_key (row_tails F ++ y ∷ []) (get_or (row_tails F) k [])
key_more F y g k l =
    let T : List (List ℕ) = row_tails F in
    let r : FieldRow = get_or F k blank_field in
    let gs : List ℕ = tail_at T r.next in
    let e : get_or T k [] ≡ r.field ∷ gs = tails_at_is F g k l in
    let q : field_key r ≡ tail_key T (r.field ∷ gs) = g.keys k l ∙ ap (tail_key T) e in
    let n : r.next ≡ tail_number T gs = ap (λ (u : List ℕ). get_or u 1 0) q in
    let b : tail_number T gs ≤ length T = omega (arith, tails_long F, g.next k l) in
    ap (tail_key T) e ∙ ap (λ (p : ℕ). r.field ∷ p ∷ suc (length gs) ∷ []) (sym (tail_more T gs y b)) ∙ sym (ap (tail_key (T ++ y ∷ [])) e)

pub tails_added : (F : List FieldRow) (f : ℕ) (fs : List ℕ) → tail_number (row_tails F) fs ≤ length (row_tails F)
    → row_tails (F ++ row_of (row_tails F) f fs ∷ []) ≡ row_tails F ++ (f ∷ fs) ∷ []
tails_added F f fs p = tails_push [] F (row_of (row_tails F) f fs) ∙ ap (λ (u : List ℕ). row_tails F ++ (f ∷ u) ∷ []) (tail_hit (row_tails F) fs p)

pub fgood_push : (F : List FieldRow) (f : ℕ) (fs : List ℕ) → FieldsGood F → tail_number (row_tails F) fs ≤ length (row_tails F) → place same_tail (row_tails F) (f ∷ fs) ≡ length (row_tails F)
    → FieldsGood (F ++ row_of (row_tails F) f fs ∷ [])
fgood_push F f fs g p new = record {
  keys = subst (λ (U : List (List ℕ)). (k : ℕ) → k < length (F ++ r ∷ []) → field_key (get_or (F ++ r ∷ []) k blank_field) ≡ tail_key U (get_or U k [])) (sym e_t)
      (each_push (λ k x. field_key x ≡ tail_key T' (get_or T' k [])) blank_field F r
      (λ k l. g.keys k l ∙ key_more F (f ∷ fs) g k l ∙ ap (tail_key T') (sym (old k l)))
      (ap (λ (m : ℕ). f ∷ m ∷ suc (length fs) ∷ []) (sym (tail_more T fs (f ∷ fs) p)) ∙ sym (ap (tail_key T') last)));
  apart = subst (λ (U : List (List ℕ)). (j k : ℕ) → j < k → k < length (F ++ r ∷ []) → get_or U j [] ≡ get_or U k [] → ⊥) (sym e_t)
      (λ j k l h. each_push (λ k x. j < k → get_or T' j [] ≡ get_or T' k [] → ⊥) blank_field F r
      (λ k h l e. g.apart j k l h (sym (old j (omega arith)) ∙ e ∙ old k h))
      (λ h e. let b : place same_tail T (f ∷ fs) ≤ j = place_le same_tail tail_tells [] T (f ∷ fs) j (omega (arith, tails_long F)) (sym (old j h) ∙ e ∙ last) in omega (arith, tails_long F)) k h l);
  next = each_push (λ k x. x.next ≤ k) blank_field F r g.next (omega (arith, tails_long F));
}
  where
    T : List (List ℕ)
    T = row_tails F

    r : FieldRow
    r = row_of (row_tails F) f fs

    T' : List (List ℕ)
    T' = row_tails F ++ (f ∷ fs) ∷ []

    e_t : row_tails (F ++ row_of (row_tails F) f fs ∷ []) ≡ row_tails F ++ (f ∷ fs) ∷ []
    e_t = tails_added F f fs p

    old : (k : ℕ) → k < length F → get_or (row_tails F ++ (f ∷ fs) ∷ []) k [] ≡ get_or (row_tails F) k []
    old k l = get_or_append_left (row_tails F) ((f ∷ fs) ∷ []) [] k (omega (arith, tails_long F))

    last : get_or (row_tails F ++ (f ∷ fs) ∷ []) (length F) [] ≡ f ∷ fs
    last = get_or_push (row_tails F) (f ∷ fs) [] (length F) (tails_long F)
