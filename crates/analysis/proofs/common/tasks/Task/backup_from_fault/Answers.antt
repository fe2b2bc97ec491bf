-- `analysis::common::tasks::Task::backup_from_fault` meets its contract. Assumes nothing.
use mathlib.Core.Path.{◌∙◌}
use native.Mathlib.Omega.{arith}
use Rattle.analysis.specs.Common.Backups.{backup_of}
use Rattle.analysis.specs.Common.Demand.{largest_before}
use Rattle.analysis.specs.Common.Lent.{chosen_in}
use Rattle.analysis.proofs.Laws.Published.InOrder.{itself-backup}
use Rattle.analysis.proofs.Laws.Common.Lent.{under_choice}
use Rattle.analysis.proofs.common.tasks.Task.backup_from_fault.Goals as goal

pub overflow_sub-count : goal.overflow_sub-count
overflow_sub-count c = omega (arith, c.args.self.now.among.chosen c.args.self.now.rank c.args.self.now.below)

pub largest-requires : goal.largest-requires
largest-requires c =
    omega (arith, c.args.self.now.among.chosen c.args.self.now.rank c.args.self.now.below)

pub returns : goal.returns
unfolding largest_before backup_of
returns c =
    let args = c.args in
    c.largest.ensures ∙ itself-backup (chosen_in args.self.now.among) (under_choice args.self.now.among) c.args.self.now.among.chosen args.self.now.rank c.args.self.now.below
