-- Questions about rows and figures.
use Rattle.std.proofs.Common.{◌≡◌, ℕ, ◌-◌, ◌<◌, ◌≤◌, List, [], length, get_or, take, Some, None, Option, sym, ap, ◌∙◌, arith, le-ltb, MatchOption}
use Rattle.std.proofs.lemmas.List.{get_or-take, get_or-map, length-take-le}
use Rattle.grammar.specs.declared.figures.Figures.{Figures}
use Rattle.rows.specs.declared.RowList.{RowList}
use Rattle.rows.specs.Found.{used, Located}
use Rattle.book.specs.Nodes.{blank_figures, figures_from, figures_at}
use Rattle.layout.specs.declared.row.TypeRow.{TypeRow}
use Rattle.layout.specs.declared.row.FieldRow.{FieldRow}
use Rattle.layout.specs.Kept.{Sound, nodes_at, figures_in, blank_type}

pub in_use : {R : Type 0} (o : Option R) (l : RowList R) (i : ℕ) → l.count ≤ length l.rows.now → MatchOption o (used l ≤ i) (λ x. Located l i x) → MatchOption o (l.count ≤ i) (λ x. Located l i x)
in_use None l i h p = omega arith
in_use (Some x) l i h p = p

-- the figures in a row are those of its number
pub row_figures_are : (types : List TypeRow) (tn : ℕ) (fields : List FieldRow) (fn n : ℕ) → tn ≤ length types → Sound types tn fields fn → 15 ≤ n → n - 15 < tn
    → (get_or types (n - 15) blank_type).figures ≡ figures_at (figures_from [] (nodes_at types tn fields fn)) n
row_figures_are types tn fields fn n h k g l =
    let L : List TypeRow = take tn types in
    let long : length L ≡ tn = length-take-le tn types h in
    rw (le-ltb n 15 g)
    (ap figures_in (sym (get_or-take tn types (n - 15) blank_type l))
    ∙ sym (get_or-map figures_in L (n - 15) blank_type blank_figures (omega arith))
    ∙ ap (λ (s : List Figures). get_or s (n - 15) blank_figures) k.good.figures)
