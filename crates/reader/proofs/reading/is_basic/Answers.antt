use Rattle.std.proofs.Common.{arith}
use Rattle.std.proofs.lemmas.Bool.Decides.{nat_tests}
use Rattle.grammar.specs.Shape.{is_basic}
use Rattle.reader.proofs.reading.is_basic.Goals as goal

pub returns-in_default : goal.returns-in_default
unfolding is_basic
returns-in_default c = grind (arith, nat_tests)

pub returns-in_default-2 : goal.returns-in_default-2
unfolding is_basic
returns-in_default-2 c = grind (arith, nat_tests)

pub returns-in-121 : goal.returns-in-121
unfolding is_basic
returns-in-121 c = grind (arith, nat_tests)

pub returns-in-121-2 : goal.returns-in-121-2
unfolding is_basic
returns-in-121-2 c = grind (arith, nat_tests)

pub returns-in_default-3 : goal.returns-in_default-3
unfolding is_basic
returns-in_default-3 c = grind (arith, nat_tests)

pub returns-in_default-4 : goal.returns-in_default-4
unfolding is_basic
returns-in_default-4 c = grind (arith, nat_tests)

pub returns-in_default-5 : goal.returns-in_default-5
unfolding is_basic
returns-in_default-5 c = grind (arith, nat_tests)

pub returns-in-121-3 : goal.returns-in-121-3
unfolding is_basic
returns-in-121-3 c = grind (arith, nat_tests)

pub returns-in-121-4 : goal.returns-in-121-4
unfolding is_basic
returns-in-121-4 c = grind (arith, nat_tests)

pub returns-in-121-5 : goal.returns-in-121-5
unfolding is_basic
returns-in-121-5 c = grind (arith, nat_tests)
