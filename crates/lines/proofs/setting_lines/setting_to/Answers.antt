-- `lines::setting_lines::setting_to` meets its contract. Assumes nothing.
use Rattle.lines.specs.Settings.{setting_to}
use Rattle.lines.proofs.setting_lines.setting_to.Goals as goal

pub returns : goal.returns
unfolding setting_to
returns c = simp (← c.part.ensures, ← c.number_of-value.ensures) c.setting_with.ensures
