-- `lines::task_lines::number_as` meets its contract. Assumes nothing.
use Rattle.lines.specs.Tasks.{number_as}
use Rattle.lines.specs.Troubles.{with_task}
use borrow.Author.Tests.{eq-eqb, ne_eqb}
use Rattle.lines.proofs.task_lines.number_as.Goals as goal

pub returns-then-value-ne0 : goal.returns-then-value-ne0
unfolding number_as with_task
returns-then-value-ne0 c = simp (ne_eqb _ 0 c.if-value-ne0.true) c.fails.ensures

pub returns : goal.returns
unfolding number_as with_task
returns c = simp (eq-eqb _ 0 c.if-value-ne0.false, ← c.numbered.ensures)
