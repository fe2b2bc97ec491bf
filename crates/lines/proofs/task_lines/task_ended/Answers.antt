-- `lines::task_lines::task_ended` meets its contract. Assumes nothing.
use Rattle.lines.specs.Tasks.{task_ended}
use borrow.Author.Tests.{lt-ltb, le-ltb}
use Rattle.lines.proofs.task_lines.task_ended.Goals as goal

pub returns-then-is_refused : goal.returns-then-is_refused
unfolding task_ended
returns-then-is_refused c = simp (← c.is_refused.ensures, c.if-is_refused.true)

pub returns-then-count-layout : goal.returns-then-count-layout
unfolding task_ended
returns-then-count-layout c = simp (← c.is_refused.ensures, c.if-is_refused.false, lt-ltb _ _ c.if-count-layout.true, ← c.field_at.ensures) c.fails_at_end.ensures

pub returns : goal.returns
unfolding task_ended
returns c = simp (← c.is_refused.ensures, c.if-is_refused.false, le-ltb _ _ c.if-count-layout.false) c.with_read.ensures
