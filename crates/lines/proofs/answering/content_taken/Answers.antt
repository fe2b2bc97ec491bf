-- `lines::answering::content_taken` meets its contract. Assumes nothing.
use Rattle.lines.specs.Answers.{content_taken}
use Rattle.lines.proofs.answering.content_taken.Goals as goal

pub returns-then-is_refused : goal.returns-then-is_refused
unfolding content_taken
returns-then-is_refused c = simp (← c.is_refused.ensures, c.if-is_refused.true)

pub returns-then-over : goal.returns-then-over
unfolding content_taken
returns-then-over c = simp (← c.is_refused.ensures, c.if-is_refused.false, c.if-over.true) c.fails_at_end.ensures

pub returns : goal.returns
unfolding content_taken
returns c = simp (← c.is_refused.ensures, c.if-is_refused.false, c.if-over.false) c.line_read.ensures
