-- `analysis::common::tasks::Ordered::lowest_late` meets its contract. Assumes nothing.
use Rattle.analysis.proofs.Laws.Bounds.ByRank.{ones-chosen}
use Rattle.analysis.proofs.common.tasks.Ordered.lowest_late.Goals as goal

pub invariant_of-among : goal.invariant_of-among
invariant_of-among c = record { chosen = ones-chosen c.args.self.now.columns.now c.args.self.now.frame c.args.self.now.order }
