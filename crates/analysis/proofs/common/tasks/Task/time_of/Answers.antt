-- `analysis::common::tasks::Task::time_of` meets its contract. Assumes nothing.
use mathlib.Core.Path.{◌∙◌}
use Rattle.analysis.specs.Common.Lent.{chosen_in}
use Rattle.analysis.proofs.Laws.ByEquation.{solved-by}
use Rattle.analysis.proofs.common.tasks.Task.time_of.Goals as goal

pub returns : goal.returns
returns c = c.time.ensures.same ∙ solved-by c.args.equation (chosen_in c.args.self.now.among) c.args.self.now.rank
