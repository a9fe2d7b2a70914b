use Rattle.std.proofs.Common.{◌<◌, ◌≤◌, length, ◌∙◌, arith}
use Rattle.std.proofs.lemmas.Result.{err_from_is_err_and}
use Rattle.grammar.proofs.ScanExact.{good_valid, is_fault}
use Rattle.reader.proofs.Joins.{top_passed, top_failed, top_ended, passed_in, failed_in, answered}
use Rattle.reader.proofs.Counts.{row_next, row_end}
use Rattle.reader.proofs.reading.parse_all.Goals as goal

pub loop-cursor-preserved : goal.loop-cursor-preserved
loop-cursor-preserved c =
    let i = c.loop-cursor.invariant in
    let more : c.loop-cursor.cursor.at < length c.args.text.now = rw (← i.0) (c.at_end.ensures.more c.loop-cursor-test.true) in
    let p = passed_in i.0 c.in_ok-parse_signature.ensures.read in (
      c.parse_signature.ensures.text ∙ i.0,
      i.1 ∙ top_passed _ _ _ _ _ more p,
      omega (arith, i.2, p.forward),
      λ v. row_next _ _ _ _ _ more p (i.3 v),
    )

pub returns-in_err-parse_signature : goal.returns-in_err-parse_signature
returns-in_err-parse_signature c =
    let i = c.loop-cursor.invariant in
    let more : c.loop-cursor.cursor.at < length c.args.text.now = rw (← i.0) (c.at_end.ensures.more c.loop-cursor-test.true) in
    let p = err_from_is_err_and c.from_residual.result c.from_residual.ensures.1 in
    let f = failed_in i.0 c.in_err-parse_signature.ensures.read in
    answered _ _ _ _ p.1 p.2 (is_fault _ _ _ f.within (i.1 ∙ top_failed _ _ _ _ _ more f))

pub returns : goal.returns
returns c =
    let i = c.loop-cursor.invariant in
    let end : length c.args.text.now ≤ c.loop-cursor.cursor.at = rw (← i.0) (c.at_end.ensures.ended c.loop-cursor-test.false) in
    let v = good_valid _ (i.1 ∙ top_ended _ _ _ _ end) in
    record { valid = v; count = row_end _ _ _ _ end (i.3 v) }
