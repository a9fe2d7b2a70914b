use Rattle.std.proofs.Common.{◌∙◌, arith}
use Rattle.grammar.specs.Shape.{basic_codes}
use Rattle.forms.proofs.At.{at_copied}
use Rattle.forms.proofs.Texts.{code_byte}
use Rattle.forms.proofs.bytes.first_byte.Goals as goal

pub returns : goal.returns
returns c = c.copied.ensures ∙ at_copied basic_codes c.in_ok-i.i c.get.result (rw c.from.ensures at c.get.ensures.lookup) ∙ code_byte c.args.n c.in_ok-i.i c.args.p (omega arith) c.in_ok-i.ensures
