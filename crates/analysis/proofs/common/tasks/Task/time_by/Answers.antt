-- `analysis::common::tasks::Task::time_by` meets its contract. Assumes nothing.
use mathlib.Core.Path.{sym, ap, ◌∙◌}
use Rattle.analysis.specs.declared.Rule.{Rule}
use Rattle.analysis.specs.Common.Lent.{chosen_in}
use Rattle.analysis.specs.Published.Response.{response_time}
use Rattle.analysis.specs.Assured.Time.{assured_within, assured_time}
use Rattle.analysis.specs.ByRule.{time_by}
use Rattle.analysis.specs.ByEquation.{asked_by}
use Rattle.analysis.proofs.common.tasks.Task.time_by.Goals as goal

pub returns-in-Published : goal.returns-in-Published
unfolding time_by response_time
returns-in-Published c =
    let self = c.args.self.now in
    let s = chosen_in self.among in
    c.response.ensures
    ∙ ap (λ (rule : Rule). time_by rule s self.rank) (sym c.in-Published.is)

pub returns-in-Assured : goal.returns-in-Assured
unfolding time_by assured_time assured_within asked_by
returns-in-Assured c =
    let self = c.args.self.now in
    let s = chosen_in self.among in
    c.time.ensures.same
    ∙ ap (λ (rule : Rule). time_by rule s self.rank) (sym c.in-Assured.is)
