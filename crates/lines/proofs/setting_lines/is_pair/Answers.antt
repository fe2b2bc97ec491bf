-- `lines::setting_lines::is_pair` meets its contract. Assumes nothing.
use Rattle.lines.specs.Settings.{is_pair}
use Rattle.lines.proofs.setting_lines.is_pair.Goals as goal

pub returns : goal.returns
unfolding is_pair
returns c = simp (c.is_open.ensures, c.begins_number-first.ensures, c.cell_of.ensures, c.begins_number-second.ensures, c.cell_of-2.ensures, c.are_first.ensures, c.split-cells.ensures, c.separator_of.ensures)
