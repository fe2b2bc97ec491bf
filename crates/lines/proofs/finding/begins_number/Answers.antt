-- `lines::finding::begins_number` meets its contract. Assumes nothing.
use Rattle.std.proofs.Common.{arith}
use Rattle.std.proofs.lemmas.Grind.{common_steps}
use Rattle.cells.specs.Kinds.{is_digit}
use Rattle.lines.specs.Settings.{begins_number}
use Rattle.lines.proofs.finding.begins_number.Goals as goal

pub returns : goal.returns
unfolding begins_number is_digit
returns c = grind (arith, common_steps)
