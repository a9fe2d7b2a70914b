use Rattle.std.proofs.lemmas.Result.{err_from_is_err_and}
use Rattle.reader.proofs.Judging.{judged_fault}
use Rattle.reader.proofs.reading.parse.Goals as goal

pub returns-in_err-types : goal.returns-in_err-types
returns-in_err-types c =
    let p = err_from_is_err_and c.from_residual.result c.from_residual.ensures.1 in
    rw (p.1, p.2) (record { judged = judged_fault _ _ c.if-text-gt-LONGEST_TEXT.false c.in_err-types.ensures; counted = tt })
