-- `analysis::common::tasks::Task::time` meets its contract. Assumes nothing.
use mathlib.Core.Path.{◌∙◌}
use Rattle.analysis.proofs.common.tasks.Task.time.Goals as goal

pub returns : goal.returns
returns c = record { same = c.least.ensures.same ∙ c.search.ensures c.args.limit; small = c.least.ensures.small }
