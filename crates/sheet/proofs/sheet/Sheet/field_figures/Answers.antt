use Rattle.std.proofs.Common.{ℕ, [], length, subst, ap, ◌∙◌, arith}
use Rattle.std.proofs.lemmas.Result.{err_from_is_err_and}
use Rattle.grammar.specs.declared.figures.Figures.{Figures}
use Rattle.book.specs.Nodes.{figures_from}
use Rattle.layout.specs.Figured.{Figured}
use Rattle.sheet.specs.Seen.{nodes_on}
use Rattle.sheet.proofs.Backwards.{last_of}
use Rattle.sheet.proofs.Summed.{fields_with, fields_longer}
use Rattle.sheet.proofs.sheet.Sheet.field_figures.Goals as goal

pub loop-i-preserved : goal.loop-i-preserved
loop-i-preserved c =
    let v = c.loop-i.invariant in
    let h = c.in-Some.ensures.steps in
    let x = c.in_ok-all.ensures in
    let z = last_of c.args.fs.now c.loop-i.i-iterator.iter.iter.rest.now _ _ 0 v.rest h.1.0 in
    let k = subst (λ (n : ℕ). Figured (nodes_on c.loop-i.self) n c.in_ok-field.field) z.item c.in_ok-field.ensures.figures in
    record {
      same = c.figures.ensures.same ∙ v.same;
      short = omega (arith, x.short, ap (λ (f : Figures). f.length) x.figures);
      figures = x.figures ∙ fields_with c.args.self.now c.loop-i.self c.args.fs.now _ _ _ _ v.same k v.figures z.long z.below;
      rest = z.front;
      from = h.0 ∙ v.from;
    }

pub returns-in_err-all-clause-figures : goal.returns-in_err-all-clause-figures
returns-in_err-all-clause-figures c =
    let s = c.args.self.now in
    let fs = c.args.fs.now in
    let v = c.loop-i.invariant in
    let x = c.in_err-all.ensures in
    let z = last_of fs c.loop-i.i-iterator.iter.iter.rest.now _ _ 0 v.rest c.in-Some.ensures.steps.1.0 in
    let k = subst (λ (n : ℕ). Figured (nodes_on c.loop-i.self) n c.in_ok-field.field) z.item c.in_ok-field.ensures.figures in
    let e = ap (λ (f : Figures). f.length) (fields_with s c.loop-i.self fs _ _ _ _ v.same k v.figures z.long z.below) in
    let p = err_from_is_err_and c.from_residual-in_err-all.result c.from_residual-in_err-all.ensures.1 in
    rw (p.1, p.2) (record { refusal = x.refusal; long = omega (arith, x.long, e, fields_longer (figures_from [] (nodes_on s)) fs (length c.next.new.self.iter.iter.rest.now)) })
