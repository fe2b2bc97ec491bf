-- `locks::rules::wrong_request` meets its contract. Assumes nothing.
use borrow.Author.Tests.{lt-ltb, le-ltb}
use Rattle.locks.specs.Ceilings.{resource_at}
use Rattle.locks.specs.Rules.{wrong_request}
use Rattle.locks.proofs.rules.wrong_request.Goals as goal

pub returns-then-at-gt7 : goal.returns-then-at-gt7
unfolding wrong_request
returns-then-at-gt7 c = simp (lt-ltb _ _ c.if-at-gt7.true)

pub returns : goal.returns
unfolding wrong_request resource_at
returns c = simp (le-ltb _ _ c.if-at-gt7.false, c.is_user.ensures)
