use Rattle.std.proofs.Common.{ℕ, List, [], ◌∷◌, length, sym, ap, ◌∙◌, subst, arith}
use Rattle.sheet.proofs.Shown.{exit_outcome}
use Rattle.std.proofs.lemmas.Bool.{eqb-true, eqb-false}
use Rattle.grammar.specs.declared.figures.Figures.{Figures}
use Rattle.grammar.specs.Refusals.{refused}
use Rattle.book.specs.Plain.{Answer}
use Rattle.book.specs.Nodes.{Node, structure_figures}
use Rattle.book.specs.Makers.{unknown_at}
use Rattle.layout.specs.Kept.{nodes_of, tails_in}
use Rattle.layout.specs.Figured.{Bounded}
use Rattle.layout.proofs.Bounds.{fields_in_are}
use Rattle.sheet.proofs.Summed.{few_fields}
use Rattle.sheet.proofs.Structs.{structure_unknown, structure_unit, structure_none, structure_long, structure_good, refused_still, structure_as, known_by, parts_from}
use Rattle.sheet.proofs.Texts.{called_structure}
use Rattle.sheet.proofs.sheet.Sheet.structure.Goals as goal

abbrev unknown_value : List Node → List (List ℕ) → ℕ → Answer × List Node × List (List ℕ)
unknown_value b T v = (refused 3 (v ∷ []), b, T)

pub returns-in_err-all_known : goal.returns-in_err-all_known
returns-in_err-all_known c =
    let s = c.args.self.now in
    let fs = c.args.fs.now in
    let u = c.in_err-all_known.ensures in
    let h = ap (λ (k : ℕ). unknown_at k fs) c.next_number.ensures.number in
    let m =
    refused_still s c.next_number.new.self 3 (unknown_at c.next_number.result fs ∷ []) _ c.next_number.ensures.same
    (structure_unknown s.types.cap s.fields.cap (nodes_of s.types s.fields) (tails_in s.fields) fs (omega (arith, h, u.1))
    ∙ ap (unknown_value (nodes_of s.types s.fields) (tails_in s.fields)) (sym h))
    in
    rw (exit_outcome _ _ c.from_residual.ensures.1, u.0) (record { called = called_structure s c.next_number.new.self _ fs m; made = m })

pub returns-in_err-no_unit : goal.returns-in_err-no_unit
returns-in_err-no_unit c =
    let s = c.args.self.now in
    let fs = c.args.fs.now in
    let b = nodes_of s.types s.fields in
    let u = c.in_err-no_unit.ensures in
    let known = known_by b _ fs c.next_number.ensures.number c.in_ok-all_known.ensures in
    let m = refused_still s c.next_number.new.self 4 _ _ c.next_number.ensures.same (structure_unit s.types.cap s.fields.cap b (tails_in s.fields) fs known u.1) in
    rw (exit_outcome _ _ c.from_residual-in_err-no_unit.ensures.1, u.0) (record { called = called_structure s c.next_number.new.self _ fs m; made = m })

pub returns-then-is_empty : goal.returns-then-is_empty
returns-then-is_empty c =
    let s = c.args.self.now in
    let fs = c.args.fs.now in
    let b = nodes_of s.types s.fields in
    let known = known_by b _ fs c.next_number.ensures.number c.in_ok-all_known.ensures in
    let m =
    refused_still s c.next_number.new.self 5 [] _ c.next_number.ensures.same
    (structure_none s.types.cap s.fields.cap b (tails_in s.fields) fs known c.in_ok-no_unit.ensures (eqb-true (length fs) 0 (sym c.if-is_empty.ensures)))
    in
    record { called = called_structure s c.next_number.new.self _ fs m; made = m }

pub field_figures-requires : goal.field_figures-requires
field_figures-requires c =
    let s = c.args.self.now in
    let fs = c.args.fs.now in
    let b = nodes_of s.types s.fields in
    rw c.next_number.ensures.same (parts_from b fs (known_by b _ fs c.next_number.ensures.number c.in_ok-all_known.ensures) c.in_ok-no_unit.ensures)

pub returns-in_err-fields : goal.returns-in_err-fields
returns-in_err-fields c =
    let s = c.args.self.now in
    let fs = c.args.fs.now in
    let b = nodes_of s.types s.fields in
    let u = rw c.next_number.ensures.same at c.in_err-fields.ensures.figures in
    let known = known_by b _ fs c.next_number.ensures.number c.in_ok-all_known.ensures in
    let m =
    refused_still s c.field_figures.new.self 7 [] _ (c.field_figures.ensures.same ∙ c.next_number.ensures.same)
    (structure_long s.types.cap s.fields.cap b (tails_in s.fields) fs known c.in_ok-no_unit.ensures (eqb-false (length fs) 0 (sym c.if-is_empty.ensures)) (omega (arith, u.long)))
    in
    rw (exit_outcome _ _ c.from_residual-in_err-fields.ensures.1, u.refusal) (record { called = called_structure s c.field_figures.new.self _ fs m; made = m })

pub returns-in_err-figures : goal.returns-in_err-figures
returns-in_err-figures c =
    let s = c.args.self.now in
    let fs = c.args.fs.now in
    let b = nodes_of s.types s.fields in
    let f = rw c.next_number.ensures.same at c.in_ok-fields.ensures.figures in
    let u = c.in_err-figures.ensures in
    let known = known_by b _ fs c.next_number.ensures.number c.in_ok-all_known.ensures in
    let m =
    refused_still s c.field_figures.new.self 7 [] _ (c.field_figures.ensures.same ∙ c.next_number.ensures.same)
    (structure_long s.types.cap s.fields.cap b (tails_in s.fields) fs known c.in_ok-no_unit.ensures (eqb-false (length fs) 0 (sym c.if-is_empty.ensures))
    (omega (arith, u.long, ap (λ (x : Figures). x.length) f.figures)))
    in
    rw (exit_outcome _ _ c.from_residual-in_err-figures.ensures.1, u.refusal) (record { called = called_structure s c.field_figures.new.self _ fs m; made = m })

pub structure_of-requires : goal.structure_of-requires
structure_of-requires c =
    let s = c.args.self.now in
    let fs = c.args.fs.now in
    let b = nodes_of s.types s.fields in
    let f = rw c.next_number.ensures.same at c.in_ok-fields.ensures.figures in
    let w = c.in_ok-figures.ensures (subst Bounded (sym f.figures) (fields_in_are b fs)) in
    let parts = parts_from b fs (known_by b _ fs c.next_number.ensures.number c.in_ok-all_known.ensures) c.in_ok-no_unit.ensures in
    rw (c.field_figures.ensures.same, c.next_number.ensures.same)
    (record {
      parts = parts;
      some = omega (arith, eqb-false (length fs) 0 (sym c.if-is_empty.ensures));
      few = omega (arith, few_fields b fs parts, f.short);
      figures = w.figures ∙ ap structure_figures f.figures;
      short = omega (arith, w.short, ap (λ (x : Figures). x.length) w.figures);
    })

pub returns : goal.returns
returns c =
    let s = c.args.self.now in
    let t = c.structure_of.new.self in
    let fs = c.args.fs.now in
    let b = nodes_of s.types s.fields in
    let f = rw c.next_number.ensures.same at c.in_ok-fields.ensures.figures in
    let w = c.in_ok-figures.ensures (subst Bounded (sym f.figures) (fields_in_are b fs)) in
    let known = known_by b _ fs c.next_number.ensures.number c.in_ok-all_known.ensures in
    let m =
    structure_as s c.field_figures.new.self t.types t.fields fs _ _ (c.field_figures.ensures.same ∙ c.next_number.ensures.same)
    (structure_good s.types.cap s.fields.cap b (tails_in s.fields) fs known c.in_ok-no_unit.ensures (eqb-false (length fs) 0 (sym c.if-is_empty.ensures))
    (omega (arith, w.short, ap (λ (x : Figures). x.length) f.figures))) c.structure_of.ensures
    in
    record { called = called_structure s t _ fs m; made = m }
