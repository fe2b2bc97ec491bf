-- `locks::judging::wrong_starts` meets its contract. Assumes nothing.
use borrow.Author.Tests.{lt-ltb, le-ltb}
use Rattle.locks.specs.Rules.{wrong_starts}
use Rattle.locks.proofs.judging.wrong_starts.Goals as goal

pub returns-then-starts-gt8 : goal.returns-then-starts-gt8
unfolding wrong_starts
returns-then-starts-gt8 c = simp (lt-ltb _ _ c.if-starts-gt8.true)

pub returns : goal.returns
unfolding wrong_starts
returns c = simp (le-ltb _ _ c.if-starts-gt8.false, c.some_wrong.ensures)
