-- The figures of fields in a row, from the last field back.
use Rattle.std.proofs.Common.{◌≡◌, ℕ, zero, suc, ◌+◌, ◌-◌, ◌<◌, ◌≤◌, List, [], ◌∷◌, ◌++◌, length, get_or, drop, sym, ap, ◌∙◌, arith, le-ltb, lt-ltb}
use native.Mathlib.Decide.{dec_lt}
use Rattle.std.proofs.lemmas.List.{length_push, get_or-map, drop_more}
use Rattle.grammar.specs.declared.figures.Figures.{Figures}
use Rattle.grammar.specs.Shape.{basic_codes}
use Rattle.book.specs.Nodes.{Node, array, maybe, dict, structure, code_figures, first_figures, blank_figures, figures_at, field_figures, with_field, node_figures, figures_from}
use Rattle.sheet.specs.declared.sheet.Sheet.{Sheet}
use Rattle.layout.specs.Kept.{nodes_of}
use Rattle.layout.specs.Figured.{Figured}
use Rattle.layout.specs.Structured.{AllParts}
use Rattle.layout.proofs.Keep.{each_push}

pub fields_step : (acc : List Figures) (fs : List ℕ) (i j : ℕ) → i ≡ j + 1 → j < length fs → field_figures acc (drop j fs) ≡ with_field (figures_at acc (get_or fs j 0)) (field_figures acc (drop i fs))
fields_step acc fs i j e l = ap (field_figures acc) (drop_more fs j 0 l) ∙ ap (λ (u : ℕ). with_field (figures_at acc (get_or fs j 0)) (field_figures acc (drop u fs))) (sym e)

-- more fields have a longer form
pub fields_longer : (acc : List Figures) (fs : List ℕ) (j : ℕ) → (field_figures acc (drop j fs)).length ≤ (field_figures acc fs).length
fields_longer acc fs zero = omega arith
fields_longer acc [] (suc j) = omega arith
fields_longer acc (f ∷ fs) (suc j) = omega (arith, fields_longer acc fs j)

abbrev LongEnough : Figures → Type 0
LongEnough f = 1 ≤ f.length

node_long : (acc : List Figures) (x : Node) → LongEnough (node_figures acc x)
node_long acc (array n) = omega arith
node_long acc (maybe n) = omega arith
node_long acc (dict k v) = omega arith
node_long acc (structure fs) = omega arith

all_long : (acc : List Figures) (b : List Node) → ((k : ℕ) → k < length acc → LongEnough (get_or acc k blank_figures)) → (k : ℕ) → k < length (figures_from acc b) → LongEnough (get_or (figures_from acc b) k blank_figures)
unfolding figures_from
all_long acc [] h = h
all_long acc (x ∷ b) h = all_long (acc ++ node_figures acc x ∷ []) b (each_push (λ _ f. LongEnough f) blank_figures acc (node_figures acc x) h (node_long acc x))

figures_count : (acc : List Figures) (b : List Node) → length (figures_from acc b) ≡ length acc + length b
unfolding figures_from
figures_count acc [] = omega arith
figures_count acc (x ∷ b) = figures_count (acc ++ node_figures acc x ∷ []) b ∙ omega (arith, length_push acc (node_figures acc x))

first_long : (n : ℕ) → 0 < n → n < 15 → LongEnough (get_or first_figures n blank_figures)
first_long zero h l = absurd (omega arith)
first_long (suc n) h l = omega (arith, ap (λ (f : Figures). f.length) (get_or-map code_figures basic_codes n 0 blank_figures (omega arith)))

part_long : (b : List Node) (n : ℕ) → 0 < n → n < 15 + length b → LongEnough (figures_at (figures_from [] b) n)
part_long b n h l = go (dec_lt n 15)
  where
    go : Dec (n < 15) → LongEnough (figures_at (figures_from [] b) n)
    go (yes y) = rw (lt-ltb n 15 y) (first_long n h y)
    go (no m) = rw (le-ltb n 15 (omega arith)) (all_long [] b (λ k g. absurd (omega arith)) (n - 15) (omega (arith, figures_count [] b)))

-- there are no more fields than bytes
pub few_fields : (b : List Node) (fs : List ℕ) → AllParts (length b) fs → length fs ≤ (field_figures (figures_from [] b) fs).length
few_fields b [] p = omega arith
few_fields b (f ∷ fs) p = omega (arith, part_long b f (p 0 (omega arith)).0 (p 0 (omega arith)).1, few_fields b fs (λ i l. p (suc i) (omega arith)))

-- the figures of this field and of those behind it
pub fields_with : (s s' : Sheet) (fs : List ℕ) (i j : ℕ) (field all : Figures) → s' ≡ s → Figured (nodes_of s'.types s'.fields) (get_or fs j 0) field
    → all ≡ field_figures (figures_from [] (nodes_of s.types s.fields)) (drop i fs) → i ≡ j + 1 → j < length fs
    → with_field field all ≡ field_figures (figures_from [] (nodes_of s.types s.fields)) (drop j fs)
fields_with s s' fs i j field all q k e ei l =
    let f = rw q at k in
    ap (λ (x : Figures). with_field x all) f.figures
    ∙ ap (with_field (figures_at (figures_from [] (nodes_of s.types s.fields)) (get_or fs j 0))) e
    ∙ sym (fields_step (figures_from [] (nodes_of s.types s.fields)) fs i j ei l)
