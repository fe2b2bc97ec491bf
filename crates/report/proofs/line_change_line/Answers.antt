-- `report::line_change_line` meets its contract: the line of a change with its word. Assumes nothing.
use Rattle.report.specs.Texts.{line_change_text}
use Rattle.report.proofs.line_change_line.Goals as goal

pub returns : goal.returns
unfolding line_change_text
returns c = c.told.ensures
