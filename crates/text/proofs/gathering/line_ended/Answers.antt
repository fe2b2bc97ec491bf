-- `text::gathering::line_ended` meets its contract. Assumes nothing.
use Rattle.text.specs.Texts.{line_ended}
use Rattle.text.proofs.gathering.line_ended.Goals as goal

pub returns : goal.returns
unfolding line_ended
returns c = simp (c.reading_of.ensures, c.after.ensures)
