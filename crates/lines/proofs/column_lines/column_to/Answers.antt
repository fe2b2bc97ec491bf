-- `lines::column_lines::column_to` meets its contract. Assumes nothing.
use Rattle.lines.specs.Columns.{column_to}
use borrow.Author.Tests.{eq-eqb, ne_eqb}
use Rattle.lines.proofs.column_lines.column_to.Goals as goal

pub returns-then-is_refused : goal.returns-then-is_refused
unfolding column_to
returns-then-is_refused c = simp (← c.is_refused.ensures, c.if-is_refused.true)

pub returns-then-at : goal.returns-then-at
unfolding column_to
returns-then-at c = simp (← c.is_refused.ensures, c.if-is_refused.false, eq-eqb _ _ c.if-at.true) c.fails.ensures

pub returns : goal.returns
unfolding column_to
returns c = simp (← c.is_refused.ensures, c.if-is_refused.false, ne_eqb _ _ c.if-at.false, ← c.part.ensures, ← c.column_of-column.ensures) c.column_as.ensures
