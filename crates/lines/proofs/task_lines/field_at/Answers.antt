-- `lines::task_lines::field_at` meets its contract. Assumes nothing.
use Rattle.std.proofs.Common.{arith}
use Rattle.std.proofs.lemmas.Grind.{common_steps}
use Rattle.lines.specs.Tasks.{field_at}
use Rattle.lines.proofs.task_lines.field_at.Goals as goal

pub returns : goal.returns
unfolding field_at
returns c = grind (arith, common_steps)
