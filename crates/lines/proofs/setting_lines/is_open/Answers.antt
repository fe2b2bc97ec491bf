-- `lines::setting_lines::is_open` meets its contract. Assumes nothing.
use Rattle.lines.specs.Settings.{is_open}
use Rattle.lines.proofs.setting_lines.is_open.Goals as goal

pub returns : goal.returns
unfolding is_open
returns c = simp (c.is_given.ensures, c.is_given-2.ensures, c.is_given-3.ensures)
