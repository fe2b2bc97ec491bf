-- `lines::column_lines::has_column` meets its contract. Assumes nothing.
use Rattle.std.proofs.Common.{arith}
use Rattle.std.proofs.lemmas.Grind.{common_steps}
use Rattle.lines.specs.Columns.{has_column}
use Rattle.lines.proofs.column_lines.has_column.Goals as goal

pub returns : goal.returns
unfolding has_column
returns c = grind (arith, common_steps)
