-- `lines::task_lines::filled_task` meets its contract. Assumes nothing.
use Rattle.lines.specs.Tasks.{filled_task}
use Rattle.lines.proofs.task_lines.filled_task.Goals as goal

pub returns : goal.returns
unfolding filled_task
returns c = simp (c.with_deadline.ensures, c.with_fault.ensures)
