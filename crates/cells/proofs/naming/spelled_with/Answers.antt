-- `cells::naming::spelled_with` meets its contract. Assumes nothing.
use Rattle.cells.specs.Names.{spelled_with}
use borrow.Author.Tests.{lt-ltb, le-ltb}
use Rattle.cells.proofs.naming.spelled_with.Goals as goal

pub returns-then-length-ge32 : goal.returns-then-length-ge32
unfolding spelled_with
returns-then-length-ge32 c = simp (le-ltb _ _ c.if-length-ge32.true) c.misspelt.ensures

pub returns : goal.returns
unfolding spelled_with
returns c = simp (lt-ltb _ _ c.if-length-ge32.false)
