-- `text::gathering::reading_of` meets its contract. Assumes nothing.
use Rattle.text.specs.Texts.{held_line, reading_of}
use Rattle.text.proofs.gathering.reading_of.Goals as goal

pub returns : goal.returns
unfolding reading_of held_line
returns c = simp (← c.part-held.ensures) c.read_line.ensures
