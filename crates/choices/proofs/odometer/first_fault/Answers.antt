-- `choices::odometer::first_fault` meets its contract. Assumes nothing.
use borrow.Author.Tests.{eq-eqb, ne_eqb}
use Rattle.choices.specs.Stepping.{first_for}
use Rattle.choices.proofs.odometer.first_fault.Goals as goal

pub returns-then-priority-eq0 : goal.returns-then-priority-eq0
unfolding first_for
returns-then-priority-eq0 c = simp (eq-eqb _ _ c.if-priority-eq0.true)

pub returns-else-priority-eq0 : goal.returns-else-priority-eq0
unfolding first_for
returns-else-priority-eq0 c = simp (ne_eqb _ _ c.if-priority-eq0.false)
