-- `reasons::adding::total_of` meets its contract. Assumes nothing.
use mathlib.Core.Path.{ap, ap₂, ◌∙◌}
use native.Mathlib.Omega.{arith}
use Rattle.reasons.specs.declared.Tip.TheVariants.{Faults, Supplier}
use Rattle.reasons.specs.declared.adding.Total.{Total}
use Rattle.reasons.specs.Adding.{amount, added, tasks_added, total_of}
use Rattle.reasons.proofs.adding.total_of.Goals as goal

pub added-requires : goal.added-requires
unfolding added
added-requires c =
    let sum = ap (λ (t : Total). t.sum) c.added-struck.ensures in
    record {
      room = omega (arith, sum, c.amount-backups.ensures.small, c.with_tasks-before.ensures.small);
      small = c.amount-rounds.ensures.small;
    }

pub returns : goal.returns
unfolding total_of amount
returns c =
    let rounds = c.amount-rounds in
    let struck = c.added-struck in
    let backups = c.amount-backups in
    let tasks = c.with_tasks-before in
    let own = c.own in
    let args = c.args in
    let before = tasks.ensures.same ∙ ap (tasks_added args.deadline args.tasks 8) own.ensures.same in
    c.added.ensures
    ∙ ap₂ (added args.deadline Supplier) rounds.ensures.same (struck.ensures ∙ ap₂ (added args.deadline Faults) backups.ensures.same before)
