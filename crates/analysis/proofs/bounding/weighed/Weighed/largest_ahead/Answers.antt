-- `analysis::bounding::weighed::Weighed::largest_ahead` meets its contract. Assumes nothing.
use borrow.Author.Rules.{rules}
use Rattle.analysis.specs.Assured.Ahead.{largest_ahead}
use Rattle.analysis.proofs.bounding.weighed.Weighed.largest_ahead.Goals as goal

pub returns : goal.returns
unfolding largest_ahead
returns c = c.most.ensures _ (λ k r low gave. search rules)
