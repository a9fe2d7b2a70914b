use Rattle.std.proofs.Common.{◌∙◌, arith}
use Rattle.forms.proofs.Texts.{long_as}
use Rattle.forms.proofs.Leading.{onto, in_part, past_part}
use Rattle.forms.proofs.bytes.fields_step.Goals as goal

pub returns-then-left-length-clause-leads : goal.returns-then-left-length-clause-leads
returns-then-left-length-clause-leads c =
    let i = c.loop-row.invariant in
    let e = c.in-Some.ensures.same ∙ i.same in
    in_part (onto i.reached i.same c.in-Some.ensures.field) (omega (arith, c.if-left-length.true, c.part_length-length.ensures.long, long_as e c.in-Some.row.field))

pub loop-row-preserved : goal.loop-row-preserved
loop-row-preserved c =
    let i = c.loop-row.invariant in
    let e = c.in-Some.ensures.same ∙ i.same in
    record {
      same = c.part_length-length.ensures.same ∙ e;
      reached = past_part (onto i.reached i.same c.in-Some.ensures.field) (omega (arith, c.if-left-length.false, c.part_length-length.ensures.long, long_as e c.in-Some.row.field));
    }
