-- `reasons::adding::added` meets its contract. Assumes nothing.
use borrow.Author.Tests.{lt-ltb, le-ltb}
use Rattle.reasons.specs.Adding.{added}
use Rattle.reasons.proofs.adding.added.Goals as goal

pub returns-then-deadline-before : goal.returns-then-deadline-before
unfolding added
returns-then-deadline-before c = simp (lt-ltb _ _ c.if-deadline-before.true)

pub returns-then-deadline-sum : goal.returns-then-deadline-sum
unfolding added
returns-then-deadline-sum c = simp (le-ltb _ _ c.if-deadline-before.false, lt-ltb _ _ c.if-deadline-sum.true)

pub returns : goal.returns
unfolding added
returns c = simp (le-ltb _ _ c.if-deadline-before.false, le-ltb _ _ c.if-deadline-sum.false)
