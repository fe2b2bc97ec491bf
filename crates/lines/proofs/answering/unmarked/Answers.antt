-- `lines::answering::unmarked` meets its contract. Assumes nothing.
use Rattle.lines.specs.Answers.{unmarked}
use Rattle.lines.proofs.answering.unmarked.Goals as goal

pub returns-then-number-has_mark : goal.returns-then-number-has_mark
unfolding unmarked
returns-then-number-has_mark c = simp (← c.has_mark.ensures, c.if-number-has_mark.true) c.part.ensures

pub returns : goal.returns
unfolding unmarked
returns c = simp (← c.has_mark.ensures, c.if-number-has_mark.false)
