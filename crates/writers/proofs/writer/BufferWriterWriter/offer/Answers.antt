use Rattle.std.proofs.Common.{arith}
use Rattle.std.proofs.lemmas.Grind.{common_steps}
use Rattle.std.proofs.lemmas.List.{drop-drop, drop-set-lt}
use Rattle.writers.proofs.writer.BufferWriterWriter.offer.Goals as goal

pub returns-clause-took : goal.returns-clause-took
returns-clause-took c = grind (arith, common_steps, drop-drop 1 c.args.self.now.count c.args.self.now.buffer.now, drop-set-lt)
