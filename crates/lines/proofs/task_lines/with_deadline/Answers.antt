-- `lines::task_lines::with_deadline` meets its contract. Assumes nothing.
use Rattle.lines.specs.Tasks.{with_deadline}
use Rattle.lines.proofs.task_lines.with_deadline.Goals as goal

pub returns-then-has_column : goal.returns-then-has_column
unfolding with_deadline
returns-then-has_column c = simp (← c.has_column.ensures, c.if-has_column.true)

pub returns : goal.returns
unfolding with_deadline
returns c = simp (← c.has_column.ensures, c.if-has_column.false)
