-- `analysis::common::search::Search::asked` meets its contract: a length that is not 0 is asked a backup at least, and no more is paid. Assumes nothing.
use native.Mathlib.Omega.{arith}
use Rattle.analysis.specs.Common.Demand.{demand_of}
use Rattle.analysis.proofs.Laws.Common.Ranked.{paid-asked}
use Rattle.analysis.proofs.common.search.Search.asked.Goals as goal

pub overflow_sub-result : goal.overflow_sub-result
overflow_sub-result c =
    omega (arith, paid-asked _ c.args.self.now.tasks.order _ c.args.self.now.sought c.args.length c.requires.some, c.load.ensures.same)

pub returns : goal.returns
unfolding demand_of
returns c =
    let paid = paid-asked _ c.args.self.now.tasks.order _ c.args.self.now.sought c.args.length c.requires.some in
    record {
      same = omega (arith, c.load.ensures.same);
      small = omega (arith, paid, c.load.ensures.same, c.load.ensures.small, c.args.self.now.sought.base);
    }
