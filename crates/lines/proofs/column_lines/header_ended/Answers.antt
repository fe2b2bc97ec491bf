-- `lines::column_lines::header_ended` meets its contract. Assumes nothing.
use Rattle.std.proofs.Common.{arith}
use Rattle.std.proofs.lemmas.Grind.{common_steps}
use Rattle.lines.specs.Columns.{header_ended}
use Rattle.lines.proofs.column_lines.header_ended.Goals as goal

pub returns-then-is_refused : goal.returns-then-is_refused
unfolding header_ended
returns-then-is_refused c = simp (← c.is_refused.ensures, c.if-is_refused.true)

pub returns-in-Some : goal.returns-in-Some
unfolding header_ended
returns-in-Some c = grind (arith, common_steps)

pub returns-in-None : goal.returns-in-None
unfolding header_ended
returns-in-None c = grind (arith, common_steps)
