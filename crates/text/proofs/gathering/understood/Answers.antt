-- `text::gathering::understood` meets its contract. Assumes nothing.
use Rattle.text.specs.Answers.{understood}
use Rattle.text.specs.Texts.{held_line}
use Rattle.text.proofs.gathering.understood.Goals as goal

pub returns : goal.returns
unfolding understood held_line
returns c = simp (← c.reading_of.ensures, ← c.part-held.ensures) c.answer.ensures
