-- `analysis::common::choice::priority_at` meets its contract. Assumes nothing.
use mathlib.Core.Path.{sym}
use Rattle.sheet.specs.Layout.{record_at}
use Rattle.analysis.proofs.Laws.Common.Choice.{priority-at, priority-past}
use Rattle.analysis.proofs.common.choice.priority_at.Goals as goal

pub returns-then-place-table : goal.returns-then-place-table
unfolding record_at
returns-then-place-table c =
    sym (priority-at c.args.table c.requires.few c.args.place c.if-place-table.true)

pub returns : goal.returns
returns c =
    sym (priority-past c.args.table c.args.place c.if-place-table.false)
