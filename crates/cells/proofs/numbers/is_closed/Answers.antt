-- `cells::numbers::is_closed` meets its contract. Assumes nothing.
use Rattle.cells.specs.Numbers.{is_closed}
use borrow.Author.Tests.{lt-ltb, le-ltb}
use Rattle.cells.proofs.numbers.is_closed.Goals as goal

pub returns-then-cell-lt2 : goal.returns-then-cell-lt2
unfolding is_closed
returns-then-cell-lt2 c = simp (lt-ltb _ _ c.if-cell-lt2.true)

pub returns : goal.returns
unfolding is_closed
returns c = simp (le-ltb _ _ c.if-cell-lt2.false, c.byte_at.ensures, c.is_paired.ensures, c.between.ensures)
