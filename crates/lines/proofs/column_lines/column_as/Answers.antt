-- `lines::column_lines::column_as` meets its contract. Assumes nothing.
use Rattle.lines.specs.Columns.{column_as}
use Rattle.lines.specs.Troubles.{with_layout}
use borrow.Author.Tests.{eq-eqb, ne_eqb}
use Rattle.lines.proofs.column_lines.column_as.Goals as goal

pub returns-then-column-eq0 : goal.returns-then-column-eq0
unfolding column_as with_layout
returns-then-column-eq0 c = simp (eq-eqb _ 0 c.if-column-eq0.true) c.fails.ensures

pub returns-then-has_column : goal.returns-then-has_column
unfolding column_as with_layout
returns-then-has_column c = simp (ne_eqb _ 0 c.if-column-eq0.false, ← c.has_column.ensures, c.if-has_column.true) c.fails-then-has_column.ensures

pub returns : goal.returns
unfolding column_as with_layout
returns c = simp (ne_eqb _ 0 c.if-column-eq0.false, ← c.has_column.ensures, c.if-has_column.false, ← c.with_column.ensures)
