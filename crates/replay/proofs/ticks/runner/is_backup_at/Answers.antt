-- `replay::ticks::runner::is_backup_at` meets its contract. Assumes nothing.
use Rattle.std.proofs.Common.{eq-eqb, ne_eqb}
use Rattle.replay.specs.Ticks.Cells.{is_ready}
use Rattle.replay.proofs.ticks.runner.is_backup_at.Goals as goal

pub returns-then-cell-ne0 : goal.returns-then-cell-ne0
unfolding is_ready
returns-then-cell-ne0 c = simp (c.if-cell.true, ne_eqb _ _ c.if-cell-ne0.true)

pub returns-else-cell-ne0 : goal.returns-else-cell-ne0
unfolding is_ready
returns-else-cell-ne0 c = simp (c.if-cell.true, eq-eqb _ _ c.if-cell-ne0.false)
