use Rattle.std.proofs.Common.{slice_get, sym, refl, ap, ◌∙◌}
use Rattle.grammar.specs.Shape.{Text}
use Rattle.sheet.specs.Seen.{book_in}
use Rattle.forms.proofs.Texts.{row_at, no_row, no_text, byte_as}
use Rattle.forms.proofs.Leading.{row_done, row_below, row_within}
use Rattle.forms.proofs.bytes.byte.Goals as goal

pub returns-in_err-row-clause-byte : goal.returns-in_err-row-clause-byte
returns-in_err-row-clause-byte c =
    let i = c.loop-i.invariant in
    let s = c.loop-i.sheet in
    byte_as c.args.sheet.now s i.same c.loop-i.part c.loop-i.place c.from_residual.result
    (c.from_residual.ensures ∙ sym (ap (λ (w : Text). slice_get w c.loop-i.place) (no_text (book_in s) c.loop-i.part (no_row s c.in-Some.ensures c.in_err-row.ensures.row))))
    ∙ i.byte

pub returns-in-Done-clause-byte : goal.returns-in-Done-clause-byte
returns-in-Done-clause-byte c =
    let i = c.loop-i.invariant in
    let r = row_at c.loop-i.sheet c.in-Some.ensures c.in_ok-row.ensures.row in
    byte_as c.args.sheet.now c.loop-i.sheet i.same c.loop-i.part c.loop-i.place c.in-Done.found (row_done c.loop-i.place c.type_row.ensures.same r c.in-Done.ensures.leads) ∙ i.byte

pub loop-i-smaller : goal.loop-i-smaller
loop-i-smaller c =
    row_below c.loop-i.place c.type_row.ensures.same (row_at c.loop-i.sheet c.in-Some.ensures c.in_ok-row.ensures.row) c.in-Part.ensures.leads

pub loop-i-preserved : goal.loop-i-preserved
loop-i-preserved c =
    let i = c.loop-i.invariant in
    let e = c.type_row.ensures.same ∙ i.same in
    let r = row_at c.loop-i.sheet c.in-Some.ensures c.in_ok-row.ensures.row in
    record {
      same = c.row_step.ensures.same ∙ e;
      byte =
          sym (byte_as c.args.sheet.now c.type_row.new.self e c.in-Part.inner c.in-Part.behind _ refl)
          ∙ byte_as c.args.sheet.now c.loop-i.sheet i.same c.loop-i.part c.loop-i.place _ (row_within c.loop-i.place c.type_row.ensures.same r c.in-Part.ensures.leads)
          ∙ i.byte;
    }
