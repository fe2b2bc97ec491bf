-- `analysis::common::search::Search::least` meets its contract. Assumes nothing.
use mathlib.Core.Path.{◌∙◌}
use Rattle.analysis.proofs.Laws.Common.Started.{start-least}
use Rattle.analysis.proofs.common.search.Search.least.Goals as goal

pub returns : goal.returns
returns c =
    let start = c.least_asked.ensures in
    record {
      same = c.climb.ensures.same ∙ start-least _ _ c.args.limit start.same start.some;
      small = c.climb.ensures.small;
    }
