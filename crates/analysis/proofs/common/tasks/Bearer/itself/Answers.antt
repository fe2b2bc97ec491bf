-- `analysis::common::tasks::Bearer::itself` meets its contract. Assumes nothing.
use Prim.Native.Nat.{ℕ, ◌+◌, ◌-◌}
use mathlib.Core.Path.{ap, ap₂, ◌∙◌}
use native.Mathlib.Omega.{arith}
use Rattle.analysis.specs.Common.Search.{least_within}
use Rattle.analysis.specs.Common.Demand.{demand_of}
use Rattle.analysis.specs.Common.Lent.{tasks_in}
use Rattle.analysis.proofs.Laws.Published.InOrder.{itself-found}
use Rattle.analysis.proofs.common.tasks.Bearer.itself.Goals as goal

pub once-requires : goal.once-requires
once-requires c = omega arith

pub invariant_of-result : goal.invariant_of-result
invariant_of-result c =
    let self = c.args.self.now in
    record {
      sought = record {
        rank = self.below;
        until = omega arith;
        some = omega (arith, c.wide.ensures.same, self.tasks.order.cost self.rank self.below);
        base = omega (arith, c.wide.ensures.small, c.wide-2.ensures.small, c.once.ensures.small);
        backup = omega (arith, c.ranges.backup);
        paid = omega arith;
      };
    }

pub returns : goal.returns
returns c =
    let self = c.args.self.now in
    let s = tasks_in self.tasks in
    let base = ap₂ ◌+◌ (ap₂ ◌+◌ c.wide.ensures.same c.wide-2.ensures.same) c.once.ensures.same in
    record {
      same = λ j. record { base = base j; rank = self.rank; until = self.tasks.frame.count - self.fault; backup = c.args.backup; paid = c.args.backup };
      found =
          λ limit. ap (λ (base : ℕ). least_within (demand_of s (record { base = base; rank = self.rank; until = self.tasks.frame.count - self.fault; backup = c.args.backup; paid = c.args.backup })) 1 limit) base
          ∙ itself-found s self.tasks.order self.rank self.below self.fault self.fits c.args.backup limit;
    }
