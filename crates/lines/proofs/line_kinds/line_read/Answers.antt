-- `lines::line_kinds::line_read_lem` meets its contract. Assumes nothing.
use Rattle.lines.specs.Lines.{line_read}
use Rattle.lines.proofs.line_kinds.line_read.Goals as goal

pub returns : goal.returns
unfolding line_read
returns c = simp (← c.split.ensures) c.words_read.ensures
