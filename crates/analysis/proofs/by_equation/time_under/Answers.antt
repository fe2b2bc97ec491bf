-- `analysis::by_equation::time_under` meets its contract. Assumes nothing.
use mathlib.Core.Path.{sym, ap, ◌∙◌}
use borrow.Author.Tests.{ne_eqb}
use Rattle.analysis.specs.Told.{some_of}
use Rattle.analysis.proofs.Laws.ByEquation.{solved-there}
use Rattle.analysis.proofs.by_equation.time_under.Goals as goal

pub returns-then-time-eq0 : goal.returns-then-time-eq0
unfolding some_of
returns-then-time-eq0 c =
    let task = c.task_of-task.ensures in
    let args = c.args in
    let time = c.time_of-time.ensures ∙ solved-there args.table c.requires.good _ task.filled args.choice _ task.beside task.framed args.equation args.place c.requires.here task.rank in
    sym (ap some_of (sym time ∙ c.if-time-eq0.true))

pub returns-else-time-eq0 : goal.returns-else-time-eq0
unfolding some_of
returns-else-time-eq0 c =
    let task = c.task_of-task.ensures in
    let args = c.args in
    let time = c.time_of-time.ensures ∙ solved-there args.table c.requires.good _ task.filled args.choice _ task.beside task.framed args.equation args.place c.requires.here task.rank in
    rw (← time) (simp (ne_eqb _ 0 c.if-time-eq0.false))
