-- `replay::ticks::phases::gap_after` meets its contract. Assumes nothing.
use Rattle.replay.specs.Ticks.Step.{gap_after}
use Rattle.replay.proofs.ticks.phases.gap_after.Goals as goal

pub returns-then-is_marked : goal.returns-then-is_marked
unfolding gap_after
returns-then-is_marked c = simp (c.if-is_marked.true, c.less_one.ensures)

pub returns : goal.returns
unfolding gap_after
returns c = simp (c.if-is_marked.false, c.less_one-2.ensures)
