-- `lines::answering::filled_in` meets its contract. Assumes nothing.
use Rattle.std.proofs.Common.{arith}
use Rattle.std.proofs.lemmas.Grind.{common_steps}
use Rattle.lines.specs.Answers.{filled_in}
use Rattle.lines.proofs.answering.filled_in.Goals as goal

pub returns : goal.returns
unfolding filled_in
returns c = grind (arith, common_steps)
