-- `analysis::common::tasks::Ordered::once` meets its contract: before each turn the costs from the first rank on and below are summed, and each is what its task runs in a length of 1. Assumes nothing.
use Prim.Native.Nat.{ℕ, ◌+◌, ◌-◌, ◌*◌, ◌≤◌}
use mathlib.Core.Path.{◌≡◌, sym, ap, ap₂, ◌∙◌}
use native.Mathlib.Omega.{arith}
use native.Mathlib.Nat.{one-mul}
use lib.ListN.{get_or}
use Rattle.places.specs.Places.{sum_below}
use Rattle.places.proofs.Turns.{sum_more}
use Rattle.analysis.specs.Common.Demand.{runs_of}
use Rattle.analysis.proofs.Laws.Common.Rounding.{up_one}
use Rattle.analysis.proofs.common.tasks.Ordered.once.Invariants.{run}
use Rattle.analysis.proofs.common.tasks.Ordered.once.Goals as goal

pub loop-rank-init : goal.loop-rank-init
unfolding sum_below
loop-rank-init c =
    let none : c.args.from - c.args.from ≡ 0 = omega arith in
    (omega arith, omega arith, sym (ap (sum_below (λ k. run c.args.self.now.columns.now (c.args.from + k))) none), omega arith)

pub overflow_add-total : goal.overflow_add-total
overflow_add-total c = omega (arith, c.requires, c.args.self.now.order.few)

pub loop-rank-preserved : goal.loop-rank-preserved
loop-rank-preserved c =
    let at = c.loop-rank in
    let args = c.args in
    let each = run args.self.now.columns.now in
    let one : at.rank + 1 - args.from ≡ at.rank - args.from + 1 = omega arith in
    let here : at.rank ≡ args.from + (at.rank - args.from) = omega arith in
    let begun : 1 ≤ get_or args.self.now.columns.now (8 + at.rank) 0 = c.args.self.now.order.period at.rank (omega (arith, c.requires)) in
    let whole : each at.rank ≡ get_or args.self.now.columns.now at.rank 0 = ap (λ (n : ℕ). n * get_or args.self.now.columns.now at.rank 0) (up_one _ begun) ∙ one-mul _ in
    let grown = ap₂ ◌+◌ at.invariant.2 (c.wide-total.ensures.same ∙ sym whole ∙ ap each here) in
    (omega arith, omega arith, grown ∙ sym (sum_more (λ k. each (args.from + k)) (at.rank - args.from)) ∙ sym (ap (sum_below (λ k. each (args.from + k))) one), omega (arith, c.wide-total.ensures.small))

pub returns : goal.returns
unfolding runs_of
returns c =
    let at = c.loop-rank in
    let args = c.args in
    let all : at.rank - args.from ≡ args.until - args.from = omega arith in
    record {
      same = at.invariant.2 ∙ ap (sum_below (λ k. run args.self.now.columns.now (args.from + k))) all;
      small = omega (arith, c.requires, c.args.self.now.order.few);
    }
