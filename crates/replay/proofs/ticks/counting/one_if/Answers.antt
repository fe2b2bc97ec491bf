-- `replay::ticks::counting::one_if` meets its contract. Assumes nothing.
use Rattle.std.proofs.Common.{rules}
use Rattle.places.specs.Places.{one_if}
use Rattle.replay.proofs.ticks.counting.one_if.Goals as goal

pub returns-then-holds : goal.returns-then-holds
unfolding one_if
returns-then-holds c = record {
  exact = simp c.if-holds.true;
  small = search rules;
}

pub returns-else-holds : goal.returns-else-holds
unfolding one_if
returns-else-holds c = record {
  exact = simp c.if-holds.false;
  small = search rules;
}
