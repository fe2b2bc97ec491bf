-- `lines::task_lines::with_fault` meets its contract. Assumes nothing.
use Rattle.lines.specs.Tasks.{with_fault}
use Rattle.lines.proofs.task_lines.with_fault.Goals as goal

pub returns-then-has_column : goal.returns-then-has_column
unfolding with_fault
returns-then-has_column c = simp (← c.has_column.ensures, c.if-has_column.true)

pub returns : goal.returns
unfolding with_fault
returns c = simp (← c.has_column.ensures, c.if-has_column.false)
