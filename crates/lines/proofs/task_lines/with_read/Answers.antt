-- `lines::task_lines::with_read_lem` meets its contract. Assumes nothing.
use Rattle.lines.specs.Tasks.{with_read}
use borrow.Author.Tests.{le-leb, lt-leb}
use Rattle.lines.proofs.task_lines.with_read.Goals as goal

pub returns-then-count-ge8 : goal.returns-then-count-ge8
unfolding with_read
returns-then-count-ge8 c = simp (le-leb _ _ c.if-count-ge8.true)

pub returns : goal.returns
unfolding with_read
returns c = simp (lt-leb _ _ c.if-count-ge8.false, c.filled_task.ensures)
