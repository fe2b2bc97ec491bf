-- `lines::setting_lines::are_first` meets its contract. Assumes nothing.
use Rattle.lines.specs.Settings.{are_first}
use Rattle.lines.proofs.setting_lines.are_first.Goals as goal

pub returns : goal.returns
unfolding are_first
returns c = simp (c.start_of.ensures, c.start_of-2.ensures, c.start_of-3.ensures, c.start_of-4.ensures)
