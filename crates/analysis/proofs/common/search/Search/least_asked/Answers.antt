-- `analysis::common::search::Search::least_asked` meets its contract. Assumes nothing.
use native.Mathlib.Omega.{arith}
use Rattle.analysis.specs.Common.Demand.{runs_of}
use Rattle.analysis.proofs.Laws.Common.Ranked.{demand-one}
use Rattle.analysis.proofs.common.search.Search.least_asked.Goals as goal

pub once-above-requires : goal.once-above-requires
once-above-requires c = omega (arith, c.args.self.now.sought.rank)

pub once-between-requires : goal.once-between-requires
once-between-requires c = c.args.self.now.sought.until

pub returns : goal.returns
unfolding runs_of
returns c =
    let whole = demand-one _ c.args.self.now.tasks.order _ c.args.self.now.sought in
    record {
      same = omega (arith, whole, c.wide-shared.ensures.same, c.once-between.ensures.same, c.once-above.ensures.same);
      some = omega (arith, c.args.self.now.sought.some, c.args.self.now.sought.paid);
    }
