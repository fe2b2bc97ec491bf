-- `analysis::bounding::weighed::Weighed::largest_other` meets its contract. Assumes nothing.
use mathlib.Core.Bool.{cond, ◌&&◌}
use borrow.Author.Rules.{rules}
use lib.Dec.{leb}
use lib.ListN.{get_or}
use Rattle.analysis.specs.Common.Backups.{others}
use Rattle.analysis.specs.Bounds.Within.{largest_of}
use Rattle.analysis.proofs.bounding.weighed.Weighed.largest_other.Goals as goal

pub returns : goal.returns
unfolding largest_of others
returns c =
    let self = c.args.self.now in
    c.most.ensures (λ k. cond (others c.args.place k && leb c.args.priority (get_or self.choice.now k 0)) (get_or self.backups.now k 0) 0) (λ k r low gave. search rules)
