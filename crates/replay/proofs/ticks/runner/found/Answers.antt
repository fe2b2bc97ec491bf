-- `replay::ticks::runner::found` meets its contract. Assumes nothing.
use Rattle.replay.proofs.ticks.runner.found.Goals as goal

pub returns-then-is_here : goal.returns-then-is_here
returns-then-is_here c = simp c.if-is_here.true
