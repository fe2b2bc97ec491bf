-- `analysis::common::tasks::Task::backup_elsewhere` meets its contract. Assumes nothing.
use mathlib.Core.Path.{◌∙◌}
use Rattle.analysis.specs.Common.Backups.{backup_of}
use Rattle.analysis.specs.Common.Demand.{largest_before}
use Rattle.analysis.specs.Common.Lent.{chosen_in}
use Rattle.analysis.proofs.Laws.Published.InOrder.{elsewhere-backup}
use Rattle.analysis.proofs.Laws.Common.Lent.{under_choice}
use Rattle.analysis.proofs.common.tasks.Task.backup_elsewhere.Goals as goal

pub returns : goal.returns
unfolding largest_before backup_of
returns c =
    let args = c.args in
    c.largest.ensures ∙ elsewhere-backup (chosen_in args.self.now.among) (under_choice args.self.now.among) c.args.self.now.among.chosen args.self.now.rank c.args.self.now.below
