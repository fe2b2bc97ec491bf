-- `lines::answering::answered` meets its contract. Assumes nothing.
use Rattle.lines.specs.Answers.{answered}
use Rattle.lines.proofs.answering.answered.Goals as goal

pub returns-then-is_refused : goal.returns-then-is_refused
unfolding answered
returns-then-is_refused c = simp (← c.is_refused.ensures, c.if-is_refused.true, c.no_figures.ensures)

pub returns : goal.returns
unfolding answered
returns c = simp (← c.is_refused.ensures, c.if-is_refused.false, c.no_trouble.ensures, c.figures_of.ensures)
