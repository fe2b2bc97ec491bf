-- `cells::separator_of` meets its contract. Assumes nothing.
use Rattle.cells.specs.Cells.{separator_of}
use Rattle.cells.proofs.separator_of.Goals as goal

pub returns-then-has_outside : goal.returns-then-has_outside
unfolding separator_of
returns-then-has_outside c = simp (← c.has_outside.ensures, c.if-has_outside.true)

pub returns-then-has_outside-2 : goal.returns-then-has_outside-2
unfolding separator_of
returns-then-has_outside-2 c = simp (← c.has_outside.ensures, c.if-has_outside.false, ← c.has_outside-2.ensures, c.if-has_outside-2.true)

pub returns-then-has_outside-3 : goal.returns-then-has_outside-3
unfolding separator_of
returns-then-has_outside-3 c = simp (← c.has_outside.ensures, c.if-has_outside.false, ← c.has_outside-2.ensures, c.if-has_outside-2.false, ← c.has_outside-3.ensures, c.if-has_outside-3.true)

pub returns : goal.returns
unfolding separator_of
returns c = simp (← c.has_outside.ensures, c.if-has_outside.false, ← c.has_outside-2.ensures, c.if-has_outside-2.false, ← c.has_outside-3.ensures, c.if-has_outside-3.false)
