-- A text's call on a sheet is the plain book's.
use Rattle.std.proofs.Common.{◌≡◌, ℕ, ◌+◌, ◌<◌, ◌≤◌, ◌⊎◌, List, [], length, Ok, Err, sym, refl, ap, ◌∙◌, subst, ap₂, inl, inr, arith}
use mathlib.Core.Option.{Option, none, some}
use Rattle.std.proofs.lemmas.Bool.{cases_lt}
use Rattle.grammar.specs.declared.error.Fault.{Fault}
use Rattle.grammar.specs.declared.error.Refusal.{Refusal}
use Rattle.grammar.specs.Lists.{Distinct}
use Rattle.grammar.specs.Shape.{Text}
use Rattle.grammar.specs.Valid.{longest_text}
use Rattle.grammar.specs.Scan.{fault}
use Rattle.grammar.specs.Refusals.{Outcome, accepted, refused, outcome}
use Rattle.grammar.proofs.ScanExact.{scans, scans_valid}
use Rattle.reader.specs.Parsing.{count_of, Counted}
use Rattle.reader.specs.Judged.{Judged}
use Rattle.book.specs.Plain.{from_bytes, Limits, longest_form, known, call}
use Rattle.book.specs.Nodes.{texts_of, shapes_from}
use Rattle.book.proofs.Agree.{good_sound}
use Rattle.book.proofs.Histories.{known_distinct}
use Rattle.building.specs.Building.{Fits, BuildsWhole}
use Rattle.building.proofs.Whole.{read_long, read_faulty, read_wide, read_built}
use Rattle.sheet.specs.declared.sheet.Sheet.{Sheet}
use Rattle.layout.specs.Kept.{nodes_of}
use Rattle.layout.specs.Grown.{Grew, Unchanged, Cut}
use Rattle.layout.specs.Called.{book_of, limits_of, Called}
use Rattle.rows.specs.declared.RowList.{RowList}
use Rattle.layout.specs.declared.row.TypeRow.{TypeRow}
use Rattle.layout.specs.declared.row.FieldRow.{FieldRow}
use Rattle.layout.specs.Kept.{blank_type}
use Rattle.layout.specs.Tails.{blank_field}
use Rattle.layout.proofs.Keep.{out}
use Rattle.sheet.specs.Seen.{GrewFrom, GrewTo}
use Rattle.layout.proofs.Undo.{unchanged_refl, nodes_same, all_undone}
use Rattle.sheet.proofs.Texts.{good_book, stands}
use Rattle.layout.proofs.Undo.{limits_grew}

-- a sheet that was as it was, and then grew
pub grew_from : (s s₀ s₁ : Sheet) (m n : ℕ) → s₀ ≡ s → GrewTo s₀ s₁ → m ≡ s.types.count → n ≡ s.fields.count → GrewFrom s m n s₁
grew_from s s₀ s₁ m n e g p q = record { grew = subst (λ (x : Sheet). GrewTo x s₁) e g; types = sym p; fields = sym q }

-- rows that grew from those of a sheet and were cut back to its counts
pub cut_back : (s s' : Sheet) (m n : ℕ) (t : RowList TypeRow) (f : RowList FieldRow) → GrewFrom s m n s' → Cut blank_type m s'.types t → Cut blank_field n s'.fields f → Unchanged s.types s.fields t f
cut_back s s' m n t f g c d =
    all_undone s.types s.fields m n s'.types s'.fields t f (out s.good) (omega (arith, s.types_within, s.types_usable)) (omega (arith, s.fields_within, s.fields_usable)) g.types g.fields g.grew (out s'.good) c d

-- the book of a sheet has room, and no text twice
pub fits_in : (s : Sheet) → Fits (limits_of s.types s.fields) (book_of s.types s.fields)
fits_in s = let k = stands s in record { types = omega (arith, k.types_count, s.types_within); fields = omega (arith, k.fields_count, s.fields_within) }

pub distinct_in : (s : Sheet) → Distinct (known (book_of s.types s.fields))
distinct_in s = known_distinct (texts_of (nodes_of s.types s.fields)) (record { ns = nodes_of s.types s.fields; ss = shapes_from [] (nodes_of s.types s.fields); sound = good_sound (nodes_of s.types s.fields) (good_book s); texts = refl })

-- a refusal before anything is built
still_called : (s : Sheet) (w : Text) (n : ℕ) (vs : List ℕ) → call (limits_of s.types s.fields) (book_of s.types s.fields) (from_bytes w) ≡ (refused n vs, book_of s.types s.fields) → Called s.types s.fields s.types s.fields (refused n vs) (from_bytes w)
still_called s w n vs q = record {
  answer = sym (ap (λ (z : Outcome ℕ × List Text). z.0) q);
  book = sym (ap (λ (z : Outcome ℕ × List Text). z.1) q);
  limits = refl;
  types_long = refl;
  fields_long = refl;
  stands = stands s;
  unchanged = unchanged_refl _ _;
}

same_refused : (m n : ℕ) (us vs : List ℕ) (b : List Text) → ◌≡◌ {A = Outcome ℕ} (refused m us) (refused n vs) → ◌≡◌ {A = Outcome ℕ × List Text} (refused n vs, b) (refused m us, b)
same_refused m n us vs b e = ap (λ (z : Outcome ℕ). (z, b)) (sym e)

pub refused_called : (s : Sheet) (w : Text) (n : ℕ) (vs : List ℕ) → Judged {X = ℕ} w (refused n vs) → Called s.types s.fields s.types s.fields (refused n vs) (from_bytes w)
refused_called s w n vs j = still_called s w n vs (by (cases_lt longest_text (length w)))
  where
    faulty : length w ≤ longest_text → (o : Option Fault) → fault w ≡ o → call (limits_of s.types s.fields) (book_of s.types s.fields) (from_bytes w) ≡ (refused n vs, book_of s.types s.fields)
    faulty h none e = absurd (j.valid.1 (h, scans_valid w e))
    faulty h (some f) e = let p = scans w f e in read_faulty _ _ w h f p ∙ same_refused _ _ _ _ _ ((j.faulty f).1 (h, p))

    by : (longest_text < length w) ⊎ (length w ≤ longest_text) → call (limits_of s.types s.fields) (book_of s.types s.fields) (from_bytes w) ≡ (refused n vs, book_of s.types s.fields)
    by (inl h) = read_long _ _ w h ∙ same_refused _ _ _ _ _ (j.too_long.1 h)
    by (inr h) = faulty h (fault w) refl

pub wide_called : (s : Sheet) (w : Text) (n : ℕ) → Judged w (accepted n) → Counted w n → 1 < n → 65533 < length w → Called s.types s.fields s.types s.fields (refused 7 []) (from_bytes w)
wide_called s w n j k m l = still_called s w 7 [] (read_wide _ _ w (j.valid.0 tt).0 k.valid (omega (arith, m, k.count)) (omega arith))

module _ (s s₀ s₁ : Sheet) (w : Text) (n : ℕ) (same : s₀ ≡ s) (j : Judged w (accepted n)) (k : Counted w n) (narrow : (length w ≤ 65533) ⊎ (n ≤ 1)) (grew : Grew s₀.types s₀.fields s₁.types s₁.fields) where
  grew_in : Grew s.types s.fields s₁.types s₁.fields
  grew_in = subst (λ (x : Sheet). Grew x.types x.fields s₁.types s₁.fields) same grew

  side : (length w + 2 ≤ longest_form) ⊎ (count_of k.valid.shapes ≤ 1)
  side = elim narrow [ inl h ↦ inl (omega arith) | inr h ↦ inr (omega (arith, k.count)) ]

  fits_after : Fits (limits_of s.types s.fields) (book_of s₁.types s₁.fields)
  fits_after = subst (λ (l : Limits). Fits l (book_of s₁.types s₁.fields)) (limits_grew _ _ _ _ grew_in) (fits_in s₁)

  pub built_called : (m : ℕ) → BuildsWhole (limits_of s₀.types s₀.fields) w (book_of s₀.types s₀.fields) (Ok m) (book_of s₁.types s₁.fields) → Called s.types s.fields s₁.types s₁.fields (accepted m) (from_bytes w)
  built_called m g =
      let g' = subst (λ (x : Sheet). BuildsWhole (limits_of x.types x.fields) w (book_of x.types x.fields) (Ok m) (book_of s₁.types s₁.fields)) same g in
      let p = read_built _ _ w (j.valid.0 tt).0 k.valid side (Ok m) _ g' (fits_in s) fits_after (distinct_in s₁) in
      record { answer = p.0; book = sym p.1; limits = limits_grew _ _ _ _ grew_in; types_long = grew_in.types.long; fields_long = grew_in.fields.long; stands = stands s₁; unchanged = tt }

  pub undone_called : (x : Refusal) (s₂ : Sheet) → BuildsWhole (limits_of s₀.types s₀.fields) w (book_of s₀.types s₀.fields) (Err x) (book_of s₁.types s₁.fields) → Unchanged s.types s.fields s₂.types s₂.fields
      → Called s.types s.fields s₂.types s₂.fields (outcome (Err x)) (from_bytes w)
  undone_called x s₂ g u =
      let g' = subst (λ (y : Sheet). BuildsWhole (limits_of y.types y.fields) w (book_of y.types y.fields) (Err x) (book_of s₁.types s₁.fields)) same g in
      let p = read_built _ _ w (j.valid.0 tt).0 k.valid side (Err x) _ g' (fits_in s) fits_after (distinct_in s₁) in
      record {
        answer = p.0;
        book = ap texts_of (nodes_same _ _ _ _ u) ∙ sym p.1;
        limits = ap₂ (λ (t f : ℕ). record { types = t; fields = f }) u.types.cap u.fields.cap;
        types_long = ap length u.types.rows;
        fields_long = ap length u.fields.rows;
        stands = stands s₂;
        unchanged = u;
      }
