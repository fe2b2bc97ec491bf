-- `text::naming::size` meets its contract. Assumes nothing.
use native.Mathlib.Omega.{arith}
use Rattle.sheet.specs.Layout.{edition_for, is_whole}
use Rattle.text.proofs.naming.size.Goals as goal

pub returns-then-round-share : goal.returns-then-round-share
unfolding edition_for is_whole
returns-then-round-share c = rw c.if-round-share.true

pub returns-else-round-share : goal.returns-else-round-share
unfolding edition_for is_whole
returns-else-round-share c = rw c.if-round-share.false (omega arith)
