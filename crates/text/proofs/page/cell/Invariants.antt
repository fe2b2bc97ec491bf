-- `text::page::cell` meets its contract: before each turn the digits after those of the rest stand at the right end. Assumes nothing.
use Rattle.text.proofs.Aligned.{Cell}
use Rattle.text.proofs.page.cell.Given as goal

abbrev pub invariant-loop-rest : goal.invariant-loop-rest
invariant-loop-rest l = Cell l.number l.bytes l.place l.rest

abbrev pub decreases-loop-rest : goal.decreases-loop-rest
decreases-loop-rest l = l.place
