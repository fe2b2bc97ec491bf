-- `lines::line_kinds::columns_read` meets its contract. Assumes nothing.
use Rattle.lines.specs.Lines.{columns_read}
use Rattle.lines.specs.Troubles.{with_layout}
use Rattle.lines.proofs.line_kinds.columns_read.Goals as goal

pub returns-then-begins_number : goal.returns-then-begins_number
unfolding columns_read with_layout
returns-then-begins_number c = simp (← c.cell_of.ensures, ← c.begins_number.ensures, c.if-begins_number.true, ← c.plain_layout-layout.ensures) c.task_read.ensures

pub returns : goal.returns
unfolding columns_read with_layout
returns c = simp (← c.cell_of.ensures, ← c.begins_number.ensures, c.if-begins_number.false, ← c.named_layout-layout.ensures, ← c.split-cells.ensures) c.header_read.ensures
