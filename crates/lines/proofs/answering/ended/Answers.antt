-- `lines::answering::ended` meets its contract. Assumes nothing.
use Rattle.lines.specs.Answers.{ended_at}
use Rattle.lines.proofs.answering.ended.Goals as goal

pub returns-then-is_refused-is_given : goal.returns-then-is_refused-is_given
unfolding ended_at
returns-then-is_refused-is_given c = simp (← c.is_refused.ensures, ← c.is_given.ensures, c.if-is_refused-is_given.true)

pub returns : goal.returns
unfolding ended_at
returns c = simp (← c.is_refused.ensures, ← c.is_given.ensures, c.if-is_refused-is_given.false) c.fails_at_end.ensures
