use Rattle.std.proofs.Common.{[], ◌∷◌, length, sym, ap, ◌∙◌, arith}
use Rattle.std.proofs.lemmas.Result.{err_from_is_err_and}
use Rattle.grammar.specs.Scan.{one}
use Rattle.reader.proofs.Joins.{opened_at, byte_in, behind_maybe, ended, here, passed_in, failed_in, passed_at, failed_at, parsed_at, entered_in, parsed_in, ate_in, stayed_in, join, then_passed, then_last, then_failed, then_parsed, broken, others_one, others_end, type_pair, type_element, type_structure, type_array_deep, type_structure_deep, type_unexpected, type_basic}
use Rattle.grammar.proofs.ScanSteps.{run_one}
use Rattle.reader.proofs.reading.+many_parse_signature.Goals as goal

pub many-loop-cursor-preserved : goal.many-loop-cursor-preserved
many-loop-cursor-preserved t c =
    let i = c.loop-cursor.invariant in
    let n = c.loop-cursor-test.ensures.eaten in (
      c.parse_signature-in-loop-cursor.ensures.text ∙ c.eat.ensures.text ∙ i.0,
      then_passed (join i.1 (others_one _ _ _ _ _ (stayed_in i.0 n))) (passed_at (c.eat.ensures.text ∙ i.0) n.same c.in_ok-parse_signature-2.ensures.read),
    )

pub many-returns-in_err-parse_signature-2-clause-read : goal.many-returns-in_err-parse_signature-2-clause-read
many-returns-in_err-parse_signature-2-clause-read t c =
    let i = c.loop-cursor.invariant in
    let n = c.loop-cursor-test.ensures.eaten in
    let e = c.parse_signature.ensures.text in
    let r = c.from_residual-in_err-parse_signature-2 in
    let p = err_from_is_err_and r.result r.ensures.1 in
    broken _ _ _ _ _ _ _ p.1 p.2 (then_failed
    (join (then_passed (here _ _ _) c.in_ok-parse_signature.ensures.read) (join (entered_in e i.1) (others_one _ _ _ _ _ (stayed_in (i.0 ∙ e) n))))
    (failed_at (c.eat.ensures.text ∙ i.0 ∙ e) n.same c.in_err-parse_signature-2.ensures.read))

pub many-returns-clause-read : goal.many-returns-clause-read
many-returns-clause-read t c =
    let i = c.loop-cursor.invariant in
    let n = c.loop-cursor-test.ensures.eaten in
    let e = c.parse_signature.ensures.text in
    then_last (join (then_passed (here _ _ _) c.in_ok-parse_signature.ensures.read) (entered_in e i.1)) (others_end _ _ _ _ _ (ate_in (i.0 ∙ e) n))

pub parse_signature-returns-in_err-parse_signature-in-97-clause-read : goal.parse_signature-returns-in_err-parse_signature-in-97-clause-read
parse_signature-returns-in_err-parse_signature-in-97-clause-read t c =
    let t1 = c.take.ensures.text ∙ c.loop-b.invariant.0 in
    let r = c.from_residual in
    let p = err_from_is_err_and r.result r.ensures.1 in
    broken _ _ _ _ _ _ _ p.1 p.2 (then_failed
    (type_pair _ _ _ _ _ _ (opened_at c.loop-b.invariant c.in-Some.ensures.byte c.if-b-ne109.true) c.in-97.is c.if-arrays-gt0.true _ (ate_in t1 c.if-eat.ensures.eaten))
    (failed_in (c.eat.ensures.text ∙ t1) c.in_err-parse_signature-in-97.ensures.read))

pub parse_signature-returns-in_err-parse_signature-in-97-2-clause-read : goal.parse_signature-returns-in_err-parse_signature-in-97-2-clause-read
parse_signature-returns-in_err-parse_signature-in-97-2-clause-read t c =
    let t1 = c.take.ensures.text ∙ c.loop-b.invariant.0 in
    let r = c.from_residual-in_err-parse_signature-in-97-2 in
    let p = err_from_is_err_and r.result r.ensures.1 in
    broken _ _ _ _ _ _ _ p.1 p.2 (then_failed (then_passed
    (type_pair _ _ _ _ _ _ (opened_at c.loop-b.invariant c.in-Some.ensures.byte c.if-b-ne109.true) c.in-97.is c.if-arrays-gt0.true _ (ate_in t1 c.if-eat.ensures.eaten))
    (passed_in (c.eat.ensures.text ∙ t1) c.in_ok-parse_signature-in-97.ensures.read))
    (failed_in (c.parse_signature.ensures.text ∙ c.eat.ensures.text ∙ t1) c.in_err-parse_signature-in-97-2.ensures.read))

pub parse_signature-returns-in_ok-parse_signature-in-97-2-clause-read : goal.parse_signature-returns-in_ok-parse_signature-in-97-2-clause-read
parse_signature-returns-in_ok-parse_signature-in-97-2-clause-read t c =
    let t1 = c.take.ensures.text ∙ c.loop-b.invariant.0 in
    then_parsed _ _ _ _ _ _ _ (then_passed (then_passed
    (type_pair _ _ _ _ _ _ (opened_at c.loop-b.invariant c.in-Some.ensures.byte c.if-b-ne109.true) c.in-97.is c.if-arrays-gt0.true _ (ate_in t1 c.if-eat.ensures.eaten))
    (passed_in (c.eat.ensures.text ∙ t1) c.in_ok-parse_signature-in-97.ensures.read))
    (passed_in (c.parse_signature.ensures.text ∙ c.eat.ensures.text ∙ t1) c.in_ok-parse_signature-in-97-2.ensures.read))
    (parsed_in _ _ _ _ _ _ (c.parse_signature-then-eat.ensures.text ∙ c.parse_signature.ensures.text ∙ c.eat.ensures.text ∙ t1) c.end.ensures.outcome)

pub parse_signature-returns-else-eat-clause-read : goal.parse_signature-returns-else-eat-clause-read
parse_signature-returns-else-eat-clause-read t c =
    let t1 = c.take.ensures.text ∙ c.loop-b.invariant.0 in
    let n = c.if-eat.ensures.eaten in
    then_parsed _ _ _ _ _ _ _
    (type_element _ _ _ _ _ _ (opened_at c.loop-b.invariant c.in-Some.ensures.byte c.if-b-ne109.true) c.in-97.is c.if-arrays-gt0.true _ (stayed_in t1 n))
    (parsed_at _ _ _ _ _ _ _ (c.eat.ensures.text ∙ t1) n.same c.parse_signature-else-eat.ensures.read)

pub parse_signature-returns-in-40-clause-read : goal.parse_signature-returns-in-40-clause-read
parse_signature-returns-in-40-clause-read t c =
    let t1 = c.take.ensures.text ∙ c.loop-b.invariant.0 in
    then_parsed _ _ _ _ _ _ _ (type_structure _ _ _ _ c.args.structures c.args.arrays (opened_at c.loop-b.invariant c.in-Some.ensures.byte c.if-b-ne109.true) c.in-40.is c.if-structures-gt0.true) (parsed_in _ _ _ _ _ _ t1 c.many.ensures.read)

pub parse_signature-returns-in_default-b-clause-read : goal.parse_signature-returns-in_default-b-clause-read
parse_signature-returns-in_default-b-clause-read t c = type_basic _ _ _ _ _ _ (opened_at c.loop-b.invariant c.in-Some.ensures.byte c.if-b-ne109.true) (sym c.if-is_basic.ensures)

pub parse_signature-returns-in_default-2-clause-read : goal.parse_signature-returns-in_default-2-clause-read
parse_signature-returns-in_default-2-clause-read t c = rw c.behind-in_default-2.ensures (type_unexpected _ _ _ _ _ _ (opened_at c.loop-b.invariant c.in-Some.ensures.byte c.if-b-ne109.true) (sym c.if-is_basic.ensures) (λ e. omega arith) (λ e. omega arith))

pub parse_signature-returns-in_default-clause-read : goal.parse_signature-returns-in_default-clause-read
parse_signature-returns-in_default-clause-read t c =
    let i = c.loop-b.invariant in
    let e = ended _ _ _ (one c.args.structures c.args.arrays ∷ []) (run_one c.args.structures c.args.arrays) (c.in_default.ensures.byte.0 ∙ ap length i.0) c.in_default.ensures.byte.1 in
    record { within = e.within; breaks = λ k. i.2 c.args.structures c.args.arrays k ∙ e.breaks k }

pub parse_signature-loop-b-preserved : goal.parse_signature-loop-b-preserved
parse_signature-loop-b-preserved t c = (
  c.take.ensures.text ∙ c.loop-b.invariant.0,
  omega (arith, c.loop-b.invariant.1, c.in-Some.ensures.byte.1),
  λ s a k. c.loop-b.invariant.2 s a k ∙ behind_maybe _ _ _ _ (byte_in _ _ _ c.loop-b.invariant.0 c.in-Some.ensures.byte) c.if-b-ne109.false s a k,
)

pub parse_signature-returns-in-97-2-clause-read : goal.parse_signature-returns-in-97-2-clause-read
parse_signature-returns-in-97-2-clause-read t c = rw c.behind.ensures (type_array_deep _ _ _ _ _ _ (opened_at c.loop-b.invariant c.in-Some.ensures.byte c.if-b-ne109.true) c.in-97.is (omega (arith, c.if-arrays-gt0.false)))

pub parse_signature-returns-in-40-2-clause-read : goal.parse_signature-returns-in-40-2-clause-read
parse_signature-returns-in-40-2-clause-read t c = rw c.behind-in-40-2.ensures (type_structure_deep _ _ _ _ _ _ (opened_at c.loop-b.invariant c.in-Some.ensures.byte c.if-b-ne109.true) c.in-40.is (omega (arith, c.if-structures-gt0.false)))
