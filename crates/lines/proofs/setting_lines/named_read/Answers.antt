-- `lines::setting_lines::named_read` meets its contract. Assumes nothing.
use Rattle.lines.specs.Settings.{named_read}
use Rattle.lines.proofs.setting_lines.named_read.Goals as goal

pub returns-then-is_given : goal.returns-then-is_given
unfolding named_read
returns-then-is_given c = simp (← c.is_given.ensures, c.if-is_given.true, ← c.extent_of.ensures.start, ← c.extent_of.ensures.end) c.fails.ensures

pub returns : goal.returns
unfolding named_read
returns c = simp (← c.is_given.ensures, c.if-is_given.false, ← c.extent_of-2.ensures.start, ← c.extent_of-2.ensures.end, ← c.setting_to-next.ensures) c.no_more.ensures
