-- `analysis::common::tasks::Bearer::elsewhere` meets its contract. Assumes nothing.
use Prim.Native.Nat.{ℕ}
use mathlib.Core.Path.{ap, ◌∙◌}
use native.Mathlib.Omega.{arith}
use Rattle.analysis.specs.Common.Search.{least_within}
use Rattle.analysis.specs.Common.Demand.{demand_of}
use Rattle.analysis.specs.Common.Lent.{tasks_in}
use Rattle.analysis.proofs.Laws.Published.InOrder.{elsewhere-found}
use Rattle.analysis.proofs.common.tasks.Bearer.elsewhere.Goals as goal

pub invariant_of-result : goal.invariant_of-result
invariant_of-result c =
    let self = c.args.self.now in
    let base = c.wide-base.ensures in
    record { sought = record { rank = self.below; until = omega arith; some = omega (arith, base.same, self.tasks.order.cost self.rank self.below); base = omega (arith, base.small); backup = omega (arith, c.ranges.backup); paid = omega arith } }

pub returns : goal.returns
returns c =
    let self = c.args.self.now in
    let s = tasks_in self.tasks in
    let base = c.wide-base.ensures.same in
    record {
      same = λ j. record { base = base j; rank = self.rank; until = 0; backup = c.args.backup; paid = 0 };
      found =
          λ limit. ap (λ (base : ℕ). least_within (demand_of s (record { base = base; rank = self.rank; until = 0; backup = c.args.backup; paid = 0 })) 1 limit) base
          ∙ elsewhere-found s self.tasks.order self.rank self.below c.args.backup limit;
    }
