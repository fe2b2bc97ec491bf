-- `replay::ticks::ready::priority_of` meets its contract. Assumes nothing.
use Rattle.replay.specs.Ticks.Runner.{priority_of}
use Rattle.replay.proofs.ticks.ready.priority_of.Goals as goal

pub returns-then-cell : goal.returns-then-cell
unfolding priority_of
returns-then-cell c = simp c.if-cell.true

pub returns : goal.returns
unfolding priority_of
returns c = simp c.if-cell.false
