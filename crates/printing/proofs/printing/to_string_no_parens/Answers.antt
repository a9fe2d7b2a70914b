use Rattle.std.proofs.Common.{ap, arith}
use Rattle.std.proofs.lemmas.Grind.{common_steps}
use Rattle.sheet.specs.Seen.{book_in}
use Rattle.printing.specs.Forms.{into_of}
use Rattle.printing.proofs.printing.to_string_no_parens.Goals as goal

pub returns : goal.returns
unfolding into_of
returns c = let e = ap book_in c.bare.ensures.same in grind (arith, common_steps)
