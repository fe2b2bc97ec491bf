-- `lines::finding::start_of` meets its contract. Assumes nothing.
use Rattle.std.proofs.Common.{arith}
use Rattle.std.proofs.lemmas.Grind.{common_steps}
use Rattle.lines.specs.Troubles.{start_of}
use Rattle.lines.proofs.finding.start_of.Goals as goal

pub returns : goal.returns
unfolding start_of
returns c = grind (arith, common_steps)
