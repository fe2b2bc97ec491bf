-- `lines::task_lines::name_as` meets its contract. Assumes nothing.
use Rattle.lines.specs.Tasks.{name_as}
use Rattle.lines.specs.Troubles.{with_task}
use borrow.Author.Tests.{eq-eqb, ne_eqb}
use Rattle.lines.proofs.task_lines.name_as.Goals as goal

pub returns-then-named-ne0 : goal.returns-then-named-ne0
unfolding name_as with_task
returns-then-named-ne0 c = simp (ne_eqb _ 0 c.if-named-ne0.true) c.fails.ensures

pub returns : goal.returns
unfolding name_as with_task
returns c = simp (eq-eqb _ 0 c.if-named-ne0.false)
