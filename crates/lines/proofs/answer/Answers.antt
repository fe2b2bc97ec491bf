-- `lines::answer` meets its contract. Assumes nothing.
use Rattle.lines.specs.Answers.{answer_at}
use Rattle.lines.proofs.answer.Goals as goal

pub returns : goal.returns
unfolding answer_at
returns c = simp (← c.unmarked.ensures, ← c.ended.ensures) c.answered.ensures
