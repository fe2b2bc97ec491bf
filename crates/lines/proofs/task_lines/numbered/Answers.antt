-- `lines::task_lines::numbered` meets its contract. Assumes nothing.
use Rattle.std.proofs.Common.{arith}
use Rattle.std.proofs.lemmas.Grind.{common_steps}
use Rattle.lines.specs.Tasks.{numbered}
use Rattle.lines.proofs.task_lines.numbered.Goals as goal

pub returns-then-column : goal.returns-then-column
unfolding numbered
returns-then-column c = grind (arith, common_steps)

pub returns : goal.returns
unfolding numbered
returns c = grind (arith, common_steps)
