-- `cells::numbers::why_not` meets its contract. Assumes nothing.
use Rattle.cells.specs.Numbers.{why_not}
use Rattle.cells.proofs.numbers.why_not.Goals as goal

pub returns-then-is_empty : goal.returns-then-is_empty
unfolding why_not
returns-then-is_empty c = simp (← c.is_empty.ensures, c.if-is_empty.true)

pub returns-then-is_digit-are_digits : goal.returns-then-is_digit-are_digits
unfolding why_not
returns-then-is_digit-are_digits c = simp (← c.is_empty.ensures, c.if-is_empty.false, ← c.byte_at-first.ensures, ← c.is_digit.ensures, ← c.are_digits.ensures, c.if-is_digit-are_digits.true)

pub returns-then-first-is_digit : goal.returns-then-first-is_digit
unfolding why_not
returns-then-first-is_digit c = simp (← c.is_empty.ensures, c.if-is_empty.false, ← c.byte_at-first.ensures, ← c.is_digit.ensures, ← c.are_digits.ensures, c.if-is_digit-are_digits.false, ← c.byte_at.ensures, ← c.is_digit-2.ensures, c.if-first-is_digit.true)

pub returns : goal.returns
unfolding why_not
returns c = simp (← c.is_empty.ensures, c.if-is_empty.false, ← c.byte_at-first.ensures, ← c.is_digit.ensures, ← c.are_digits.ensures, c.if-is_digit-are_digits.false, ← c.byte_at.ensures, ← c.is_digit-2.ensures, c.if-first-is_digit.false)
