use Rattle.std.proofs.Common.{refl, Result, Ok, Err, IfOk}
use Rattle.grammar.specs.Refusals.{outcome}
use Rattle.intake.proofs.replies.reply.Goals as goal

always : {A E : Type 0} {P : Type 0} (r : Result A E) → P → IfOk r (λ x. P)
always (Ok x) p = p
always (Err e) p = tt

pub returns-in_ok-after_form-in-Ok : goal.returns-in_ok-after_form-in-Ok
returns-in_ok-after_form-in-Ok g c =
    let after = rw c.in_ok-after_form-in-Ok.was at c.after_form.ensures in
    always c.write_all-in-Ok.result (record { between = c.file.new.sheet; answer = outcome (Ok c.in-Ok.filed); called = c.in-Ok.ensures.called; told = c.in-Ok.ensures.told; followed = (_, _, _, refl, refl, refl, after) })

pub returns-in-Err : goal.returns-in-Err
returns-in-Err g c = always c.println.result (record { between = c.file.new.sheet; answer = outcome (Err c.in-Err.refusal); called = c.in-Err.ensures.called; told = c.in-Err.ensures.told; followed = refl })
