-- `text::gathering::holding` meets its contract. Assumes nothing.
use Rattle.std.proofs.Common.{arith}
use Rattle.std.proofs.lemmas.Grind.{common_steps}
use Rattle.cells.specs.Cells.{turned}
use Rattle.text.specs.Texts.{holding}
use borrow.Author.Tests.{le-ltb}
use Rattle.text.proofs.gathering.holding.Goals as goal

pub returns-then-held-ge512 : goal.returns-then-held-ge512
unfolding holding
returns-then-held-ge512 c = simp (le-ltb _ _ c.if-held-ge512.true)

pub returns : goal.returns
unfolding holding turned
returns c = grind (arith, common_steps)
