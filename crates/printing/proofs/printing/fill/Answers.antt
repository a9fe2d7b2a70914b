use Rattle.std.proofs.Common.{arith}
use Rattle.std.proofs.lemmas.Grind.{common_steps}
use Rattle.std.proofs.lemmas.Bool.Decides.{nat_tests}
use Rattle.writers.proofs.Ruled.{filled}
use Rattle.printing.proofs.Offering.{span_long}
use Rattle.printing.proofs.printing.fill.Goals as goal

pub returns : goal.returns
returns c =
    let e = span_long _ c.args.span c.requires in
    let w = rw (c.new-w.ensures.empty, c.new-w.ensures.held) at c.offer_span-printed.ensures.wrote in
    let f = filled _ _ _ _ _ _ _ _ (omega arith) w in
    record {
      same = c.offer_span-printed.ensures.same;
      answer = grind (arith, nat_tests, f.0);
      after = grind (arith, common_steps, f.1);
    }
