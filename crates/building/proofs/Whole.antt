-- A whole text's call: what the plain book answers.
use Rattle.std.proofs.Common.{◌≡◌, ℕ, ◌+◌, ◌<◌, ◌≤◌, Bool, false, ◌||◌, ltb, ◌⊎◌, List, [], ◌∷◌, ◌++◌, length, Result, sym, ap, ◌∙◌, subst, inl, inr, append-nil, arith, length-append}
use mathlib.Core.Option.{Option, none, some}
use Rattle.std.proofs.lemmas.Bool.{lt-ltb, le-ltb}
use Rattle.grammar.specs.declared.error.Fault.{Fault}
use Rattle.grammar.specs.declared.error.Refusal.{Refusal}
use Rattle.grammar.specs.Lists.{Distinct, add_all}
use Rattle.grammar.specs.Shape.{Text, Shape, Shapes, structure, nil, more, printed, printed_all}
use Rattle.grammar.specs.Valid.{longest_text, Valid, FaultOf}
use Rattle.grammar.specs.Read.{read_all}
use Rattle.grammar.specs.Refusals.{Outcome, accepted, refused, letter_of, outcome}
use Rattle.grammar.proofs.ScanExact.{valid_scans, fault_scans}
use Rattle.grammar.proofs.ReadBack.{read_all_printed, reading_empty}
use Rattle.grammar.proofs.Prefix.{bare}
use Rattle.reader.specs.Parsing.{count_of}
use Rattle.book.specs.Plain.{from_bytes, Limits, Refusing, longest_form, same_text, known, number_of, whole_text, containers_of, grown, tails_of, early, late, needed, answered, call, when, enclosed, ◌else◌}
use Rattle.building.specs.Building.{Fits, whole_of, ComesWhole, BuildsWhole}
use Rattle.building.proofs.Making.{told, after, or_false}

module _ (limits : Limits) (b : List Text) (w : Text) where
  pub read_long : longest_text < length w → call limits b (from_bytes w) ≡ (refused 1 [], b)
  unfolding call
  read_long h = rw (lt-ltb longest_text (length w) h)

  pub read_faulty : length w ≤ longest_text → (f : Fault) → FaultOf w f → call limits b (from_bytes w) ≡ (refused 2 (letter_of f.cause ∷ f.place ∷ []), b)
  unfolding call
  read_faulty h f p = rw (le-ltb longest_text (length w) h, fault_scans w f p)

  none_early : length w ≤ longest_text → Valid w → early (from_bytes w) (length b) ≡ none
  none_early h v = rw (le-ltb longest_text (length w) h, valid_scans w v)

  whole_is : (ts : Shapes) → w ≡ printed_all ts → whole_text b (from_bytes w) ≡ enclosed (some ts) w
  whole_is ts e = ap (λ (o : Option Shapes). enclosed o w) (ap read_all e ∙ read_all_printed ts)

  -- several types whose structure's form is too long
  wide_by : (ts : Shapes) → w ≡ printed_all ts → 1 < count_of ts → length w ≤ longest_text → Valid w → longest_form < length w + 2 → call limits b (from_bytes w) ≡ (refused 7 [], b)
  unfolding call
  wide_by nil e c h v l = absurd (omega arith)
  wide_by (more t nil) e c h v l = absurd (omega arith)
  wide_by (more t (more u us)) e c h v l =
      let long : longest_form < length (40 ∷ (w ++ 41 ∷ [])) = omega (arith, l, length-append w (41 ∷ [])) in
      ap (λ (x : Text). answered b x (early (from_bytes w) (length b) else late limits (needed b x))) (whole_is (more t (more u us)) e)
      ∙ ap (λ (r : Refusing). answered b (40 ∷ (w ++ 41 ∷ [])) (r else late limits (needed b (40 ∷ (w ++ 41 ∷ []))))) (none_early h v)
      ∙ ap (λ (x : Bool). answered b (40 ∷ (w ++ 41 ∷ [])) (when x 7 else when (ltb limits.types (length (grown b (40 ∷ (w ++ 41 ∷ [])))) || ltb limits.fields (length (tails_of (grown b (40 ∷ (w ++ 41 ∷ [])))))) 8)) (lt-ltb longest_form (length (40 ∷ (w ++ 41 ∷ []))) long)

  pub read_wide : length w ≤ longest_text → (v : Valid w) → 1 < count_of v.shapes → longest_form < length w + 2 → call limits b (from_bytes w) ≡ (refused 7 [], b)
  read_wide h v c l = wide_by v.shapes v.text c h v l

  unit_grown : grown b [] ≡ b
  unit_grown = ap (λ (o : Option Shape). add_all same_text b (containers_of o)) reading_empty

  read_unit : w ≡ [] → Fits limits b → length w ≤ longest_text → Valid w → call limits b (from_bytes w) ≡ (accepted 0, b)
  unfolding call
  read_unit e f h v =
      let fits : (ltb limits.types (length (grown b [])) || ltb limits.fields (length (tails_of (grown b [])))) ≡ false =
      ap (λ (z : List Text). ltb limits.types (length z) || ltb limits.fields (length (tails_of z))) unit_grown
      ∙ or_false _ _ (le-ltb limits.types (length b) f.types) (le-ltb limits.fields (length (tails_of b)) f.fields) in
      ap (λ (x : Text). answered b x (early (from_bytes w) (length b) else late limits (needed b x))) (whole_is nil e ∙ e)
      ∙ ap (λ (r : Refusing). answered b [] (r else late limits (needed b []))) (none_early h v)
      ∙ ap (λ (x : Bool). answered b [] (when x 8)) fits
      ∙ ap (λ (z : List Text). (accepted (number_of z []), z)) unit_grown

  -- what building came to is the plain book's answer
  built_by : (ts : Shapes) → w ≡ printed_all ts → length w ≤ longest_text → Valid w → (length w + 2 ≤ longest_form) ⊎ (count_of ts ≤ 1) → (r : Result ℕ Refusal) (b' : List Text) → ComesWhole limits b (whole_of ts) r b' → Fits limits b → Fits limits b' → Distinct (known b')
      → (outcome r ≡ (call limits b (from_bytes w)).0) × ((call limits b (from_bytes w)).1 ≡ after r b b')
  built_by nil e h v s r b' g f f' d =
      let q = read_unit e f h v in
      subst (λ (x : Result ℕ Refusal). (outcome x ≡ (call limits b (from_bytes w)).0) × ((call limits b (from_bytes w)).1 ≡ after x b b')) (sym g.0)
      (sym (ap (λ (z : Outcome ℕ × List Text). z.0) q), ap (λ (z : Outcome ℕ × List Text). z.1) q ∙ sym g.1)
  built_by (more t nil) e h v s r b' g f f' d =
      let whole : whole_text b (from_bytes w) ≡ printed t = whole_is (more t nil) e ∙ e ∙ append-nil (printed t) in
      told limits b (from_bytes w) t whole (none_early h v) (omega (arith, h, ap length (e ∙ append-nil (printed t)))) r b' g f' d
  built_by (more t (more u us)) e h v (inr c) r b' g f f' d = absurd (omega arith)
  built_by (more t (more u us)) e h v (inl s) r b' g f f' d =
      let whole : whole_text b (from_bytes w) ≡ printed (structure t (more u us)) = whole_is (more t (more u us)) e ∙ ap (λ (x : Text). 40 ∷ (x ++ 41 ∷ [])) e ∙ sym (bare t (more u us)) in
      told limits b (from_bytes w) (structure t (more u us)) whole (none_early h v)
      (omega (arith, s, ap length e, ap length (bare t (more u us)), length-append (printed_all (more t (more u us))) (41 ∷ []))) r b' g f' d

  pub read_built : length w ≤ longest_text → (v : Valid w) → (length w + 2 ≤ longest_form) ⊎ (count_of v.shapes ≤ 1) → (r : Result ℕ Refusal) (b' : List Text) → BuildsWhole limits w b r b' → Fits limits b → Fits limits b' → Distinct (known b')
      → (outcome r ≡ (call limits b (from_bytes w)).0) × ((call limits b (from_bytes w)).1 ≡ after r b b')
  read_built h v s r b' g f f' d = built_by v.shapes v.text h v s r b' (g.comes v.shapes v.text s (omega arith)) f f' d
