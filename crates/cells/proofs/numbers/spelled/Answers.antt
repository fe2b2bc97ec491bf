-- `cells::numbers::spelled` meets its contract. Assumes nothing.
use Rattle.cells.specs.Numbers.{spelled}
use Rattle.cells.proofs.numbers.spelled.Goals as goal

pub returns-then-is_empty-are_digits : goal.returns-then-is_empty-are_digits
unfolding spelled
returns-then-is_empty-are_digits c = simp (← c.is_empty.ensures, ← c.are_digits.ensures, c.if-is_empty-are_digits.true) c.value_of.ensures

pub returns : goal.returns
unfolding spelled
returns c = simp (← c.is_empty.ensures, ← c.are_digits.ensures, c.if-is_empty-are_digits.false, ← c.why_not.ensures) c.not_number.ensures
