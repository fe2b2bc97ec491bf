-- `replay::ticks::columns::left_after` meets its contract. Assumes nothing.
use Rattle.std.proofs.Common.{le-leb}
use borrow.Author.Tests.{lt-leb}
use Rattle.replay.proofs.ticks.columns.left_after.Goals as goal

pub returns-then-rest-le1 : goal.returns-then-rest-le1
returns-then-rest-le1 c = simp (le-leb _ _ c.if-rest-le1.true)

pub returns : goal.returns
returns c = simp (lt-leb _ _ c.if-rest-le1.false)
