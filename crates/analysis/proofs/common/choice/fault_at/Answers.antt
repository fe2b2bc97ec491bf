-- `analysis::common::choice::fault_at` meets its contract. Assumes nothing.
use borrow.Author.Tests.{lt-ltb, le-ltb}
use Rattle.sheet.specs.Layout.{record_at}
use Rattle.analysis.specs.Common.Tasks.{fault_at}
use Rattle.analysis.proofs.common.choice.fault_at.Goals as goal

pub returns-then-place-table : goal.returns-then-place-table
unfolding fault_at record_at
returns-then-place-table c = simp (lt-ltb _ _ c.if-place-table.true)

pub returns : goal.returns
unfolding fault_at
returns c = simp (le-ltb _ _ c.if-place-table.false)
