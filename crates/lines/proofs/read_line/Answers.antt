-- `lines::read_line` meets its contract. Assumes nothing.
use Rattle.lines.specs.Answers.{line_taken}
use Rattle.lines.proofs.read_line.Goals as goal

pub returns : goal.returns
unfolding line_taken
returns c = simp (← c.unmarked.ensures) c.content_taken.ensures
