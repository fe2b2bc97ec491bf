-- `lines::task_lines::cell_as_lem` meets its contract. Assumes nothing.
use Rattle.lines.specs.Tasks.{cell_as}
use borrow.Author.Tests.{eq-eqb, ne_eqb}
use Rattle.lines.proofs.task_lines.cell_as.Goals as goal

pub returns-then-at : goal.returns-then-at
unfolding cell_as
returns-then-at c = simp (eq-eqb _ _ c.if-at.true) c.fails.ensures

pub returns-then-column-eq7 : goal.returns-then-column-eq7
unfolding cell_as
returns-then-column-eq7 c = simp (ne_eqb _ _ c.if-at.false, eq-eqb _ 7 c.if-column-eq7.true, ← c.part.ensures, ← c.name_of-named.ensures) c.name_as.ensures

pub returns : goal.returns
unfolding cell_as
returns c = simp (ne_eqb _ _ c.if-at.false, ne_eqb _ 7 c.if-column-eq7.false, ← c.part-2.ensures, ← c.number_of-value.ensures) c.number_as.ensures
