-- `report::change_line` meets its contract: the line of a change with its word. Assumes nothing.
use Rattle.report.specs.Texts.{change_text}
use Rattle.report.proofs.change_line.Goals as goal

pub returns : goal.returns
unfolding change_text
returns c = c.told.ensures
