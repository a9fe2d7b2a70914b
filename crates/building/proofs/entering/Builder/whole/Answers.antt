use Rattle.std.proofs.Common.{ℕ, ◌<◌, ◌≤◌, List, length, get_or, Err, refl, ap, ◌∙◌, arith}
use Rattle.std.proofs.lemmas.Result.{err_from_is_err_and}
use Rattle.building.proofs.InRow.{whole_start, whole_next, whole_stopped, whole_none, whole_one, whole_many}
use Rattle.building.proofs.Shifts.{goes_still, goes_on}
use Rattle.building.proofs.entering.Builder.whole.Goals as goal

pub loop-self-init : goal.loop-self-init
loop-self-init g c = record { same_maker = refl; text = refl; grew = goes_still; row = whole_start _ _ _ _ c.requires.start c.requires.empty }

pub loop-self-preserved : goal.loop-self-preserved
loop-self-preserved g c =
    let i = c.loop-self.invariant in
    let k = c.in_ok-n.ensures.went in
    let h : c.loop-self.self.cursor.at < length c.args.self.now.cursor.text.now = omega (arith, c.at_end.ensures.more c.loop-self-test.true, ap length i.text) in
    record {
      same_maker = cc;
      text = k.text ∙ i.text;
      grew = goes_on i.grew k.grew;
      row = whole_next _ _ _ _ _ _ _ _ _ _ h (rw (i.text, i.grew.limits) at c.in_ok-n.ensures.builds) (cc k.kept) i.row;
    }

pub returns-in_err-n-clause-builds : goal.returns-in_err-n-clause-builds
returns-in_err-n-clause-builds g c =
    let i = c.loop-self.invariant in
    let p = err_from_is_err_and c.from_residual.result c.from_residual.ensures.1 in
    let h : c.loop-self.self.cursor.at < length c.args.self.now.cursor.text.now = omega (arith, c.at_end.ensures.more c.loop-self-test.true, ap length i.text) in
    whole_stopped _ _ _ _ _ _ _ _ _ _ _ h (rw (i.text, i.grew.limits) at c.in_err-n.ensures.builds) (p.1 ∙ ap Err p.2) i.row

pub returns-in-empty-clause-builds : goal.returns-in-empty-clause-builds
returns-in-empty-clause-builds g c =
    let i = c.loop-self.invariant in
    let e : length c.args.self.now.cursor.text.now ≤ c.loop-self.self.cursor.at = omega (arith, c.at_end.ensures.ended c.loop-self-test.false, ap length i.text) in
    whole_none _ _ _ _ _ _ e (omega (arith, ap length c.as_slice.ensures.value)) i.row

pub returns-in-len1-clause-builds : goal.returns-in-len1-clause-builds
returns-in-len1-clause-builds g c =
    let i = c.loop-self.invariant in
    let e : length c.args.self.now.cursor.text.now ≤ c.loop-self.self.cursor.at = omega (arith, c.at_end.ensures.ended c.loop-self-test.false, ap length i.text) in
    let l = c.as_slice.ensures.value in
    whole_one _ _ _ _ _ _ _ e (omega (arith, ap length l)) (ap (λ (x : List ℕ). get_or x 0 0) l) i.row

pub returns-in_default-clause-builds : goal.returns-in_default-clause-builds
returns-in_default-clause-builds g c =
    let i = c.loop-self.invariant in
    let e : length c.args.self.now.cursor.text.now ≤ c.loop-self.self.cursor.at = omega (arith, c.at_end.ensures.ended c.loop-self-test.false, ap length i.text) in
    let l = c.as_slice.ensures.value in
    whole_many _ _ _ _ _ _ _ c.make_structure.result e (omega (arith, ap length l)) i.row (rw (l, i.grew.limits) at c.make_structure.ensures.says)
