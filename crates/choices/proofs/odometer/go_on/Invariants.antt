-- `choices::odometer::go_on` meets its contract: no choice passed over stays within the bounds. Assumes nothing.
use Rattle.std.proofs.Common.{◌≡◌, true, length}
use Rattle.choices.specs.Choices.{choices_of}
use Rattle.choices.specs.Order.{after_of}
use Rattle.choices.specs.Stepping.{within_of}
use Rattle.choices.proofs.Onward.{starts_in}
use Rattle.choices.proofs.odometer.go_on.Given as goal

abbrev pub invariant-loop-rule : goal.invariant-loop-rule
invariant-loop-rule l = record {
  eight : length l.choice ≡ 8;
  going_on : starts_in l.bounds.priorities l.choice ≡ true;
  left : after_of l.initial.choice (within_of l.rule l.bounds) ≡ after_of l.choice (within_of l.rule l.bounds);
}

abbrev pub decreases-loop-rule : goal.decreases-loop-rule
decreases-loop-rule l = length (after_of l.choice (choices_of l.bounds.priorities))
