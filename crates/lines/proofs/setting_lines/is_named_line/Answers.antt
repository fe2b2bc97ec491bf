-- `lines::setting_lines::is_named_line` meets its contract. Assumes nothing.
use Rattle.lines.specs.Settings.{is_named_line}
use Rattle.lines.proofs.setting_lines.is_named_line.Goals as goal

pub returns : goal.returns
unfolding is_named_line
returns c = simp (c.setting_of-which.ensures, c.cell_of.ensures, c.begins_number.ensures, c.cell_of-2.ensures)
