-- `cells::numbers::with_digit` meets its contract. Assumes nothing.
use Rattle.std.proofs.Common.{arith}
use Rattle.std.proofs.lemmas.Grind.{common_steps}
use Rattle.cells.specs.Numbers.{with_digit}
use borrow.Author.Tests.{ne_eqb}
use Rattle.cells.proofs.numbers.with_digit.Goals as goal

pub returns-then-number-ne0 : goal.returns-then-number-ne0
unfolding with_digit
returns-then-number-ne0 c = simp (ne_eqb _ 0 c.if-number-ne0.true)

pub returns-in-Some : goal.returns-in-Some
unfolding with_digit
returns-in-Some c = grind (arith, common_steps)

pub returns-in-None : goal.returns-in-None
unfolding with_digit
returns-in-None c = grind (arith, common_steps)
