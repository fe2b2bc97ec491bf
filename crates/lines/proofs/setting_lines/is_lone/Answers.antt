-- `lines::setting_lines::is_lone` meets its contract. Assumes nothing.
use Rattle.lines.specs.Settings.{is_lone}
use Rattle.lines.proofs.setting_lines.is_lone.Goals as goal

pub returns : goal.returns
unfolding is_lone
returns c = simp (c.is_given.ensures, c.begins_number.ensures, c.cell_of.ensures)
