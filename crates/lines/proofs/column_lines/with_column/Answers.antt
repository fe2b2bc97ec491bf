-- `lines::column_lines::with_column` meets its contract. Assumes nothing.
use Rattle.std.proofs.Common.{arith}
use Rattle.std.proofs.lemmas.Grind.{common_steps}
use Rattle.lines.specs.Columns.{with_column}
use Rattle.lines.proofs.column_lines.with_column.Goals as goal

pub returns-then-width-column : goal.returns-then-width-column
unfolding with_column
returns-then-width-column c = grind (arith, common_steps)

pub returns : goal.returns
unfolding with_column
returns c = grind (arith, common_steps)
