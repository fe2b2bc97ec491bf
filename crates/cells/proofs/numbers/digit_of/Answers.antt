-- `cells::numbers::digit_of` meets its contract. Assumes nothing.
use Rattle.std.proofs.Common.{arith}
use Rattle.cells.specs.Numbers.{digit_of}
use Rattle.cells.specs.Kinds.{is_digit}
use Rattle.cells.proofs.numbers.digit_of.Goals as goal

pub overflow_sub-byte : goal.overflow_sub-byte
unfolding is_digit
overflow_sub-byte c = grind (arith, c.is_digit.ensures, c.if-is_digit.true)

pub returns-then-is_digit : goal.returns-then-is_digit
unfolding digit_of
returns-then-is_digit c = simp (← c.is_digit.ensures, c.if-is_digit.true) c.from.ensures

pub returns-else-is_digit : goal.returns-else-is_digit
unfolding digit_of
returns-else-is_digit c = simp (← c.is_digit.ensures, c.if-is_digit.false)
