-- `analysis::common::search::Search::onward` meets its contract. Assumes nothing.
use native.Mathlib.Omega.{arith}
use Rattle.analysis.specs.Common.Lent.{tasks_in, demand_in}
use Rattle.analysis.proofs.Laws.Common.Taken.{asked-missed}
use Rattle.analysis.proofs.common.search.Search.onward.Goals as goal

pub returns : goal.returns
returns c =
    let args = c.args in
    record {
      past = omega arith;
      short = asked-missed (tasks_in args.self.now.tasks) (demand_in args.self.now) args.trial.length c.requires.asked;
    }
