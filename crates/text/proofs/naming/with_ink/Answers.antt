-- `text::naming::with_ink` meets its contract. Assumes nothing.
use borrow.Author.Tests.{lt-ltb, le-ltb}
use Rattle.text.specs.Named.{with_ink}
use Rattle.text.proofs.naming.with_ink.Goals as goal

pub returns-then-at-ge66 : goal.returns-then-at-ge66
unfolding with_ink
returns-then-at-ge66 c = simp (le-ltb _ _ c.if-at-ge66.true)

pub returns : goal.returns
unfolding with_ink
returns c = simp (lt-ltb _ _ c.if-at-ge66.false)
