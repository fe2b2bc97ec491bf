-- `analysis::common::search::Search::load` meets its contract. Assumes nothing.
use native.Mathlib.Omega.{arith}
use Rattle.analysis.specs.Common.Demand.{runs_of, load_of}
use Rattle.analysis.proofs.common.search.Search.load.Goals as goal

pub runs-above-requires : goal.runs-above-requires
runs-above-requires c = record { here = omega (arith, c.args.self.now.sought.rank); short = c.requires }

pub runs-between-requires : goal.runs-between-requires
runs-between-requires c = record { here = c.args.self.now.sought.until; short = c.requires }

pub returns : goal.returns
unfolding load_of runs_of
returns c =
    record {
      same = omega (arith, c.runs-between.ensures.same, c.runs-above.ensures.same, c.supplier-shared.ensures.same, c.times-faults.ensures.same);
      small = omega (arith, c.runs-between.ensures.small, c.runs-above.ensures.small, c.supplier-shared.ensures.small, c.times-faults.ensures.small);
    }
