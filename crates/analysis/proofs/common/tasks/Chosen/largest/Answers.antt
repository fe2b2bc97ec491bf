-- `analysis::common::tasks::Chosen::largest` meets its contract. Assumes nothing.
use mathlib.Core.Bool.{true}
use borrow.Author.Rules.{rules}
use Rattle.analysis.specs.Common.Backups.{backup_of}
use Rattle.analysis.specs.Common.Demand.{largest_before}
use Rattle.analysis.specs.Common.Lent.{chosen_in}
use Rattle.analysis.proofs.common.tasks.Chosen.largest.Goals as goal

pub returns : goal.returns
unfolding largest_before backup_of
returns c =
    let s = chosen_in c.args.self.now in
    c.most.ensures (λ k. backup_of (s.at k) true (s.fault k) c.args.priority) (λ k r low gave. search rules)
