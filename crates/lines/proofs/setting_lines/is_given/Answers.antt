-- `lines::setting_lines::is_given` meets its contract. Assumes nothing.
use Rattle.std.proofs.Common.{arith}
use Rattle.std.proofs.lemmas.Grind.{common_steps}
use Rattle.lines.specs.Settings.{is_given}
use Rattle.lines.proofs.setting_lines.is_given.Goals as goal

pub returns : goal.returns
unfolding is_given
returns c = grind (arith, common_steps)
