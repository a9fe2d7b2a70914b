use Rattle.std.proofs.Common.{arith}
use Rattle.layout.specs.declared.row.Kind.TheVariants.{Array, Dict}
use Rattle.sheet.specs.Seen.{book_in}
use Rattle.forms.proofs.Leading.{leads_by, leads_other, leads_pair}
use Rattle.forms.proofs.bytes.row_step.Goals as goal

pub returns-in-Array-default-clause-leads : goal.returns-in-Array-default-clause-leads
returns-in-Array-default-clause-leads c =
    let s = c.args.sheet.now in
    leads_by s c.args.row Array c.args.p c.child_step.result c.in-Array-default.is-0 (c.child_step.ensures (book_in s))

pub returns-in-Dict-default-clause-leads : goal.returns-in-Dict-default-clause-leads
returns-in-Dict-default-clause-leads c =
    let s = c.args.sheet.now in
    leads_by s c.args.row Dict c.args.p c.pair_step.result c.in-Dict-default.is-0
    (leads_pair (book_in s) c.args.p c.args.row.first c.args.row.second c.pair_step.result (omega (arith, c.in-Dict-default.is-1)) c.pair_step.ensures.leads)

pub returns-in_default-clause-leads : goal.returns-in_default-clause-leads
returns-in_default-clause-leads c =
    let s = c.args.sheet.now in
    leads_other s c.args.row c.args.row.kind c.args.p c.child_step-in_default.result c.in_default.not-Array-0 c.in_default.not-Dict-0 c.in_default.not-Structure-0 (c.child_step-in_default.ensures (book_in s))
