-- `lines::line_kinds::words_read` meets its contract. Assumes nothing.
use Rattle.lines.specs.Lines.{words_read}
use borrow.Author.Tests.{eq-eqb, ne_eqb}
use Rattle.lines.proofs.line_kinds.words_read.Goals as goal

pub returns-then-is_refused-words : goal.returns-then-is_refused-words
unfolding words_read
returns-then-is_refused-words c = simp (← c.is_refused.ensures, c.if-is_refused-words.true)

pub returns-then-reading-eq0 : goal.returns-then-reading-eq0
unfolding words_read
returns-then-reading-eq0 c = simp (← c.is_refused.ensures, c.if-is_refused-words.false, eq-eqb _ 0 c.if-reading-eq0.true) c.early_read.ensures

pub returns : goal.returns
unfolding words_read
returns c = simp (← c.is_refused.ensures, c.if-is_refused-words.false, ne_eqb _ 0 c.if-reading-eq0.false) c.task_read.ensures
