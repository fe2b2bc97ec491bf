-- `lines::line_kinds::first_read_lem` meets its contract. Assumes nothing.
use Rattle.lines.specs.Lines.{first_read}
use Rattle.lines.proofs.line_kinds.first_read.Goals as goal

pub returns-then-is_given : goal.returns-then-is_given
unfolding first_read
returns-then-is_given c = simp (← c.is_given.ensures, c.if-is_given.true, ← c.separator_of.ensures) c.columns_read.ensures

pub returns : goal.returns
unfolding first_read
returns c = simp (← c.is_given.ensures, c.if-is_given.false, ← c.extent_of.ensures.start, ← c.extent_of.ensures.end) c.fails.ensures
