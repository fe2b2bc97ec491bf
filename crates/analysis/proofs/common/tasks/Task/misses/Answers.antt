-- `analysis::common::tasks::Task::misses` meets its contract. Assumes nothing.
use Prim.Native.Nat.{◌+◌}
use mathlib.Core.Path.{sym, ap, ◌∙◌}
use lib.ListN.{get_or}
use Rattle.analysis.specs.declared.Rule.{Rule}
use Rattle.analysis.specs.Common.Entries.{is_late}
use Rattle.analysis.specs.Common.Lent.{chosen_in}
use Rattle.analysis.specs.ByRule.{time_by}
use Rattle.analysis.proofs.common.tasks.Task.misses.Goals as goal

pub returns-in-Published : goal.returns-in-Published
unfolding time_by
returns-in-Published c =
    let self = c.args.self.now in
    c.is_late.ensures ∙ ap (λ (rule : Rule). is_late (get_or self.among.tasks.columns.now (24 + self.rank) 0) (time_by rule (chosen_in self.among) self.rank)) (sym c.in-Published.is)

pub returns-in-Assured : goal.returns-in-Assured
unfolding time_by
returns-in-Assured c =
    let self = c.args.self.now in
    c.is_unassured.ensures ∙ ap (λ (rule : Rule). is_late (get_or self.among.tasks.columns.now (24 + self.rank) 0) (time_by rule (chosen_in self.among) self.rank)) (sym c.in-Assured.is)
