-- `lines::line_kinds::early_read` meets its contract. Assumes nothing.
use Rattle.lines.specs.Lines.{early_read}
use Rattle.lines.proofs.line_kinds.early_read.Goals as goal

pub returns-then-is_lone : goal.returns-then-is_lone
unfolding early_read
returns-then-is_lone c = simp (← c.is_lone.ensures, c.if-is_lone.true, ← c.extent_of.ensures.start, ← c.extent_of.ensures.end) c.setting_to.ensures

pub returns-then-is_named_line : goal.returns-then-is_named_line
unfolding early_read
returns-then-is_named_line c = simp (← c.is_lone.ensures, c.if-is_lone.false, ← c.is_named_line.ensures, c.if-is_named_line.true, ← c.cell_of.ensures, ← c.setting_of-which.ensures) c.named_read.ensures

pub returns-then-is_pair : goal.returns-then-is_pair
unfolding early_read
returns-then-is_pair c = simp (← c.is_lone.ensures, c.if-is_lone.false, ← c.is_named_line.ensures, c.if-is_named_line.false, ← c.is_pair.ensures, c.if-is_pair.true) c.pair_read.ensures

pub returns : goal.returns
unfolding early_read
returns c = simp (← c.is_lone.ensures, c.if-is_lone.false, ← c.is_named_line.ensures, c.if-is_named_line.false, ← c.is_pair.ensures, c.if-is_pair.false) c.first_read.ensures
