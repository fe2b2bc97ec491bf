-- `lines::finding::extent_of` meets its contract. Assumes nothing.
use Rattle.std.proofs.Common.{arith}
use Rattle.std.proofs.lemmas.Grind.{common_steps}
use Rattle.lines.specs.Troubles.{end_of}
use Rattle.lines.proofs.finding.extent_of.Goals as goal

pub returns-clause-end : goal.returns-clause-end
unfolding end_of
returns-clause-end c = grind (arith, common_steps)
