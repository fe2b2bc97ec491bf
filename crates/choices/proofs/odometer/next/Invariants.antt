-- `choices::odometer::next` meets its contract: the carry, from the last place to the first. Assumes nothing.
use Rattle.choices.proofs.Carrying.{Carrying}
use Rattle.choices.proofs.odometer.next.Given as goal

abbrev pub invariant-loop-place : goal.invariant-loop-place
invariant-loop-place l = Carrying l.priorities l.initial.choice l.choice l.place
