-- `reasons::counting::counted_struck` meets its contract. Assumes nothing.
use borrow.Author.Tests.{lt-ltb, le-ltb}
use Rattle.reasons.proofs.counting.counted_struck.Goals as goal

pub returns-then-priority-other : goal.returns-then-priority-other
returns-then-priority-other c = simp (lt-ltb _ _ c.if-priority-other.true)

pub returns : goal.returns
returns c = simp (le-ltb _ _ c.if-priority-other.false) c.counted.ensures
