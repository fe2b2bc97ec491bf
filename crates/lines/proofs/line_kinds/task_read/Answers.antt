-- `lines::line_kinds::task_read` meets its contract. Assumes nothing.
use Rattle.lines.specs.Lines.{task_read}
use Rattle.lines.specs.Troubles.{with_task}
use Rattle.lines.proofs.line_kinds.task_read.Goals as goal

pub returns : goal.returns
unfolding task_read with_task
returns c = simp (← c.split-cells.ensures, ← c.task_at-task.ensures) c.task_with.ensures
