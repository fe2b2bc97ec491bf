-- `mend::records::mended_deadline` meets its contract. Assumes nothing.
use borrow.Author.Tests.{lt-ltb, le-ltb}
use Rattle.mend.specs.Mended.{mended_deadline}
use Rattle.mend.proofs.records.mended_deadline.Goals as goal

pub returns-then-period-deadline : goal.returns-then-period-deadline
unfolding mended_deadline
returns-then-period-deadline c = simp (lt-ltb _ _ c.if-period-deadline.true)

pub returns-else-period-deadline : goal.returns-else-period-deadline
unfolding mended_deadline
returns-else-period-deadline c = simp (le-ltb _ _ c.if-period-deadline.false)
