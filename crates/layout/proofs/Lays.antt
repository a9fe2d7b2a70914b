-- Laying a field list, row by row from its last field.
use Rattle.std.proofs.Common.{◌≡◌, ℕ, suc, ◌+◌, ◌-◌, ◌<◌, ◌≤◌, min, List, [], ◌∷◌, ◌++◌, length, get_or, take, drop, set, sym, refl, ap, ◌∙◌, subst, inl, inr, arith}
use native.Mathlib.Decide.{dec_lt}
use Rattle.rows.specs.declared.RowList.{RowList}
use Rattle.std.proofs.lemmas.List.{take_more_set, length_push, get_or-take, length-take-le, get_or-set_other, length-set, length-drop, drop_more, drop_all, same_lists, get_or_default}
use Rattle.grammar.specs.Lists.{place, add}
use Rattle.rows.specs.Found.{Refused, Place}
use Rattle.book.specs.Makers.{add_tails}
use Rattle.layout.specs.declared.row.FieldRow.{FieldRow}
use Rattle.book.specs.Rows.{tail_number}
use Rattle.layout.specs.Tails.{blank_field, field_key, same_tail, row_tails, FieldsGood}
use Rattle.layout.specs.Laid.{Ready, Laid, NoRoom}
use Rattle.layout.proofs.Places.{tail_tells, absent_in, place_last, add_held, add_new}
use Rattle.layout.proofs.Laying.{tails_long, row_of, row_held, row_none, add_tails_grows, tails_added, fgood_push}

pub laid_start : (old : List FieldRow) (m cap : ℕ) (fs : List ℕ) → Ready old m cap → Laid old m cap fs (length fs) old m 0
laid_start old m cap fs r =
    let e : drop (length fs) fs ≡ [] = drop_all (length fs) fs (omega arith) in
    record {
      ready = r;
      lists = rw e;
      next = rw e;
      found = omega arith;
      low = omega arith;
      long = refl;
      same = λ k d h. refl;
      rest = λ k d h. refl;
    }

-- The row of the tail at j.
row_is : (fs : List ℕ) (T : List (List ℕ)) (i j at : ℕ) → i ≡ j + 1 → j < length fs → at ≡ tail_number T (drop i fs)
    → ◌≡◌ {A = FieldRow} (record { field = get_or fs j 0; next = at; count = length fs - j }) (row_of T (get_or fs j 0) (drop i fs))
row_is fs T i j at e l n = let c : length fs - j ≡ suc (length (drop i fs)) = omega (arith, length-drop i fs) in cc

pub laid_step : (old : List FieldRow) (m cap : ℕ) (fs : List ℕ) (i j : ℕ) (rows : List FieldRow) (n at : ℕ) (r : FieldRow) (new : List FieldRow) (n' p : ℕ)
    → Laid old m cap fs i rows n at → i ≡ j + 1 → j < length fs → r ≡ record { field = get_or fs j 0; next = at; count = length fs - j }
    → Place field_key rows n cap r new n' p → Laid old m cap fs j new n' (p + 1)
laid_step old m cap fs i j rows n at r new n' p g ei lj er (inl q) =
    let F : List FieldRow = take n rows in
    let T : List (List ℕ) = row_tails F in
    let gs : List ℕ = drop i fs in
    let f : ℕ = get_or fs j 0 in
    let hn : n ≤ length rows = omega (arith, g.ready.within, g.ready.usable) in
    let lF : length F ≡ n = length-take-le n rows hn in
    let lp : p < n = omega (arith, q.below) in
    let ed : drop j fs ≡ f ∷ gs = drop_more fs j 0 lj ∙ ap (λ (u : ℕ). f ∷ drop u fs) (sym ei) in
    let p0 : tail_number T gs ≤ length T = omega (arith, tails_long F, g.next, g.found) in
    let key : field_key (get_or F p blank_field) ≡ f ∷ tail_number T gs ∷ suc (length gs) ∷ [] = ap field_key (get_or-take n rows p blank_field lp) ∙ q.same blank_field ∙ ap field_key (er ∙ row_is fs T i j at ei lj g.next) in
    let ix : place same_tail T (f ∷ gs) ≡ p = row_held F f gs g.ready.good p0 p (omega arith) key in
    let held : add same_tail T (f ∷ gs) ≡ T = add_held same_tail tail_tells T (f ∷ gs) (omega (arith, tails_long F)) in
    rw (q.rows, q.count) (record {
      ready = g.ready;
      lists = sym held ∙ ap (λ (U : List (List ℕ)). add same_tail U (f ∷ gs)) g.lists ∙ sym (ap (add_tails (row_tails (take m old))) ed);
      next = ap (λ (u : ℕ). u + 1) (sym ix) ∙ sym (ap (tail_number T) ed);
      found = omega arith;
      low = g.low;
      long = g.long;
      same = g.same;
      rest = g.rest;
    })
laid_step old m cap fs i j rows n at r new n' p g ei lj er (inr q) =
    let F : List FieldRow = take n rows in
    let T : List (List ℕ) = row_tails F in
    let gs : List ℕ = drop i fs in
    let f : ℕ = get_or fs j 0 in
    let hn : n ≤ length rows = omega (arith, g.ready.within, g.ready.usable) in
    let lF : length F ≡ n = length-take-le n rows hn in
    let e : min n (length rows) ≡ n = omega arith in
    let l : n < length rows = omega (arith, q.room) in
    let room : n < cap = omega (arith, q.room) in
    let ed : drop j fs ≡ f ∷ gs = drop_more fs j 0 lj ∙ ap (λ (u : ℕ). f ∷ drop u fs) (sym ei) in
    let p0 : tail_number T gs ≤ length T = omega (arith, tails_long F, g.next, g.found) in
    let er' : r ≡ row_of T f gs = er ∙ row_is fs T i j at ei lj g.next in
    let ix : place same_tail T (f ∷ gs) ≡ length T = row_none F f gs g.ready.good (λ k h z. absent_in field_key blank_field rows n (field_key r) hn q.absent k h (z ∙ sym (ap field_key er'))) in
    let new_is : new ≡ set rows n r = q.rows ∙ ap (λ (u : ℕ). set rows u r) e in
    let n-is : n' ≡ n + 1 = q.count ∙ ap (λ (u : ℕ). u + 1) e in
    let F-is : take (n + 1) (set rows n r) ≡ F ++ row_of T f gs ∷ [] = take_more_set rows n r l ∙ ap (λ (x : FieldRow). F ++ x ∷ []) er' in
    let T-is : row_tails (take (n + 1) (set rows n r)) ≡ T ++ (f ∷ gs) ∷ [] = ap row_tails F-is ∙ tails_added F f gs p0 in
    rw (new_is, n-is) (record {
      ready = record {
        good = subst FieldsGood (sym F-is) (fgood_push F f gs g.ready.good p0 ix);
        within = omega arith;
        usable = rw length-set g.ready.usable;
        most = g.ready.most;
        blank = λ k h. get_or-set_other rows n k r blank_field (omega arith) ∙ g.ready.blank k (omega arith);
      };
      lists = T-is ∙ sym (add_new same_tail tail_tells T (f ∷ gs) ix) ∙ ap (λ (U : List (List ℕ)). add same_tail U (f ∷ gs)) g.lists ∙ sym (ap (add_tails (row_tails (take m old))) ed);
      next = ap (λ (u : ℕ). u + 1) (q.place ∙ e ∙ sym lF ∙ sym (tails_long F) ∙ sym (place_last same_tail tail_tells [] T (f ∷ gs) ix)) ∙ sym (ap (λ (U : List (List ℕ)). tail_number U (f ∷ gs)) T-is) ∙ sym (ap (tail_number (row_tails (take (n + 1) (set rows n r)))) ed);
      found = omega (arith, q.place);
      low = omega (arith, g.low);
      long = length-set rows n r ∙ g.long;
      same = λ k d h. get_or-set_other rows n k r d (omega (arith, g.low)) ∙ g.same k d h;
      rest = λ k d h. get_or-set_other rows n k r d (omega arith) ∙ g.rest k d (omega arith);
    })

pub no_room : (old : List FieldRow) (m cap : ℕ) (fs : List ℕ) (i j : ℕ) (rows : List FieldRow) (n at : ℕ) (r : FieldRow) (new : List FieldRow) (n' : ℕ) (fin : List FieldRow) (nf : ℕ)
    → Ready old m cap → Laid old m cap fs i rows n at → i ≡ j + 1 → j < length fs → r ≡ record { field = get_or fs j 0; next = at; count = length fs - j }
    → Refused field_key rows n cap r new n'
    → nf ≡ min m n' → length fin ≡ length new
    → ((k : ℕ) (d : FieldRow) → k < m → get_or fin k d ≡ get_or new k d)
    → ((k : ℕ) (d : FieldRow) → n' ≤ k → get_or fin k d ≡ get_or new k d)
    → ((k : ℕ) (d : FieldRow) → m ≤ k → k < n' → k < length new → get_or fin k d ≡ blank_field)
    → NoRoom old m cap fs fin nf
no_room old m cap fs i j rows n at r new n' fin nf rd g ei lj er q en el below above between =
    let F : List FieldRow = take n rows in
    let T : List (List ℕ) = row_tails F in
    let gs : List ℕ = drop i fs in
    let f : ℕ = get_or fs j 0 in
    let hn : n ≤ length rows = omega (arith, g.ready.within, g.ready.usable) in
    let lF : length F ≡ n = length-take-le n rows hn in
    let ed : drop j fs ≡ f ∷ gs = drop_more fs j 0 lj ∙ ap (λ (u : ℕ). f ∷ drop u fs) (sym ei) in
    let er' : r ≡ row_of T f gs = er ∙ row_is fs T i j at ei lj g.next in
    let ix : place same_tail T (f ∷ gs) ≡ length T = row_none F f gs g.ready.good (λ k h z. absent_in field_key blank_field rows n (field_key r) hn q.absent k h (z ∙ sym (ap field_key er'))) in
    let more : length (add_tails (row_tails (take m old)) (drop j fs)) ≡ length T + 1 =
    ap length (ap (add_tails (row_tails (take m old))) ed ∙ ap (λ (U : List (List ℕ)). add same_tail U (f ∷ gs)) (sym g.lists) ∙ add_new same_tail tail_tells T (f ∷ gs) ix) ∙ length_push T (f ∷ gs) in
    record {
      rows = same_lists fin old (el ∙ ap length q.rows ∙ g.long) (λ k d h. at_k k d h (dec_lt k m) (dec_lt k n));
      count = omega (arith, q.count, g.low);
      full = omega (arith, q.full, tails_long F, add_tails_grows (row_tails (take m old)) j fs, g.ready.usable);
    }
  where
    at_k : (k : ℕ) (d : FieldRow) → k < length fin → Dec (k < m) → Dec (k < n) → get_or fin k d ≡ get_or old k d
    at_k k d h (yes y) z = below k d y ∙ ap (λ (u : List FieldRow). get_or u k d) q.rows ∙ g.same k d y
    at_k k d h (no x) (no z) = above k d (omega (arith, q.count)) ∙ ap (λ (u : List FieldRow). get_or u k d) q.rows ∙ g.rest k d (omega arith)
    at_k k d h (no x) (yes y) =
        between k d (omega arith) (omega (arith, q.count)) (omega arith)
        ∙ sym (get_or_default old k d blank_field (omega (arith, ap length q.rows, g.long)) ∙ rd.blank k (omega arith))

pub place_fits : (rows : List FieldRow) (n cap : ℕ) (r : FieldRow) (new : List FieldRow) (n' p : ℕ) → n ≤ cap → cap ≤ 65535 → Place field_key rows n cap r new n' p → p + 1 ≤ 65535
place_fits rows n cap r new n' p a b (inl q) = omega (arith, q.below)
place_fits rows n cap r new n' p a b (inr q) = omega (arith, q.place, q.room)

-- the list that is laid on, where it is as it was
pub ready_as : (a b : RowList FieldRow) → a ≡ b → Ready b.rows.now b.count b.cap → Ready a.rows.now a.count a.cap
ready_as a b e h = subst (λ (x : RowList FieldRow). Ready x.rows.now x.count x.cap) (sym e) h

pub laid_as : (a b : RowList FieldRow) (fs : List ℕ) (i : ℕ) (new : List FieldRow) (n p : ℕ) → a ≡ b
    → Laid a.rows.now a.count a.cap fs i new n p → Laid b.rows.now b.count b.cap fs i new n p
laid_as a b fs i new n p e h = subst (λ (x : RowList FieldRow). Laid x.rows.now x.count x.cap fs i new n p) e h

pub no_room_as : (a b : RowList FieldRow) (fs : List ℕ) (new : List FieldRow) (n : ℕ) → a ≡ b
    → NoRoom a.rows.now a.count a.cap fs new n → NoRoom b.rows.now b.count b.cap fs new n
no_room_as a b fs new n e h = subst (λ (x : RowList FieldRow). NoRoom x.rows.now x.count x.cap fs new n) e h
