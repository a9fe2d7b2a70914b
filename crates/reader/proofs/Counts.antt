-- How many types a text has.
use Rattle.std.proofs.Common.{◌≡◌, ℕ, ◌+◌, ◌<◌, ◌≤◌, [], ◌∷◌, length, drop, sym, ap, ◌∙◌, arith, length-append, length-drop}
use Rattle.grammar.specs.Shape.{Text, Shapes, nil, more, printed, printed_all}
use Rattle.grammar.specs.Depth.{structure_depths, array_depths}
use Rattle.grammar.specs.Valid.{deepest_structures, deepest_arrays}
use Rattle.grammar.specs.Scan.{one, run, top}
use Rattle.grammar.proofs.ScanComplete.{complete}
use Rattle.grammar.proofs.Prefix.{left, left_none}
use Rattle.grammar.proofs.ReadBack.{long}
use Rattle.reader.specs.Parsing.{Passed, count_of}

-- so many types are read, and the others stand in the rest of the text
pub record Row (text : Text) (at n : ℕ) (ts : Shapes) : Type 0 where
  pub rest : Shapes
  pub few_structures : structure_depths rest ≤ deepest_structures
  pub few_arrays : array_depths rest ≤ deepest_arrays
  pub here : drop at text ≡ printed_all rest
  pub count : count_of ts ≡ n + count_of rest

pub row_start : (text : Text) (at : ℕ) (ts : Shapes) → at ≡ 0 → text ≡ printed_all ts → structure_depths ts ≤ deepest_structures → array_depths ts ≤ deepest_arrays → Row text at 0 ts
row_start text at ts z e s a = record { rest = ts; few_structures = s; few_arrays = a; here = ap (λ (n : ℕ). drop n text) z ∙ e; count = omega arith }

next_by : (text : Text) (at to n : ℕ) (ts rest : Shapes) → at < length text → Passed text at (one deepest_structures deepest_arrays ∷ []) to
    → structure_depths rest ≤ deepest_structures → array_depths rest ≤ deepest_arrays → drop at text ≡ printed_all rest → count_of ts ≡ n + count_of rest → Row text to (n + 1) ts
next_by text at to n ts nil l p s a e c = absurd (omega (arith, ap length e, length-drop at text))
next_by text at to n ts (more t us) l p s a e c =
    let q = complete t deepest_structures deepest_arrays [] (printed_all us) (omega arith) (omega arith) in
    let same : run [] (drop to text) ≡ run [] (printed_all us) = sym (p.reads []) ∙ ap (run (one deepest_structures deepest_arrays ∷ [])) e ∙ q in
    record {
      rest = us;
      few_structures = omega arith;
      few_arrays = omega arith;
      here = sym (left_none (drop to text)) ∙ ap left same ∙ left_none (printed_all us);
      count = omega arith;
    }

pub row_next : (text : Text) (at to n : ℕ) (ts : Shapes) → at < length text → Passed text at (one deepest_structures deepest_arrays ∷ []) to → Row text at n ts → Row text to (n + 1) ts
row_next text at to n ts l p r = next_by text at to n ts r.rest l p r.few_structures r.few_arrays r.here r.count

end_by : (text : Text) (at n : ℕ) (ts rest : Shapes) → length text ≤ at → drop at text ≡ printed_all rest → count_of ts ≡ n + count_of rest → n ≡ count_of ts
end_by text at n ts nil l e c = omega arith
end_by text at n ts (more t us) l e c = absurd (omega (arith, long t, ap length e, length-drop at text, length-append (printed t) (printed_all us)))

pub row_end : (text : Text) (at n : ℕ) (ts : Shapes) → length text ≤ at → Row text at n ts → n ≡ count_of ts
row_end text at n ts l r = end_by text at n ts r.rest l r.here r.count

pub run_start : (text : Text) (at : ℕ) → at ≡ 0 → run top text ≡ run top (drop at text)
run_start text at e = ap (λ (n : ℕ). run top (drop n text)) (sym e)
