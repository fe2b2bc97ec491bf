-- `locks::bits::is_user` meets its contract. Assumes nothing.
use borrow.Author.Tests.{eq-eqb, ne_eqb, le-leb, lt-leb}
use Rattle.locks.specs.Bits.{is_user}
use Rattle.locks.proofs.bits.is_user.Goals as goal

pub returns-then-priority-eq0 : goal.returns-then-priority-eq0
unfolding is_user
returns-then-priority-eq0 c = simp (eq-eqb _ 0 c.if-priority-eq0.true)

pub returns-then-priority-gt8 : goal.returns-then-priority-gt8
unfolding is_user
returns-then-priority-gt8 c = simp (ne_eqb _ 0 c.if-priority-eq0.false, lt-leb _ _ c.if-priority-gt8.true)

pub returns : goal.returns
unfolding is_user
returns c = simp (ne_eqb _ 0 c.if-priority-eq0.false, le-leb _ _ c.if-priority-gt8.false) c.has_bit.ensures
