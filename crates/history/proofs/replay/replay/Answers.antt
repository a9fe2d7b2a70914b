use Rattle.std.proofs.Common.{length, sym, subst, ◌∙◌}
use Rattle.history.specs.Calls.{calls_of}
use Rattle.history.specs.History.{Filed}
use Rattle.history.proofs.Theorem.{answers_kept, filed, written}
use Rattle.history.proofs.replay.replay.Goals as goal

pub returns : goal.returns
returns g c =
    let types = length c.args.types.now in
    let fields = length c.args.fields.now in
    let cs = calls_of c.args.calls.now in
    let f = filed types fields cs c.open-sheet.result c.make_all.new.sheet _ _ c.open-sheet.ensures c.make_all.ensures in
    let e = c.account_of-first.ensures.same in
    let x = rw f.book at c.account_of-first.ensures.accounted in
    let y = rw (e, f.book) at c.account_of-second.ensures.accounted in
    record {
      answers = answers_kept types fields cs c.open-sheet.result c.make_all.new.sheet _ _ c.open-sheet.ensures c.make_all.ensures;
      filed = subst (Filed types fields cs) (sym (c.account_of-second.ensures.same ∙ e)) f;
      first = x;
      second = y;
      written = written types fields cs c.args.m c.args.n _ _ _ _ _ _ x y;
      still = (c.account_of-first.ensures.still, c.account_of-second.ensures.still);
    }
