-- `analysis::common::tasks::Ordered::runs` meets its contract: before each turn the ranks from the first on and below are summed. Assumes nothing.
use Prim.Native.Nat.{◌+◌, ◌-◌}
use mathlib.Core.Path.{◌≡◌, sym, ap, ap₂, ◌∙◌}
use native.Mathlib.Omega.{arith}
use Rattle.places.specs.Places.{sum_below}
use Rattle.places.proofs.Turns.{sum_more}
use Rattle.analysis.specs.Common.Demand.{runs_of}
use Rattle.analysis.proofs.common.tasks.Ordered.runs.Invariants.{run}
use Rattle.analysis.proofs.common.tasks.Ordered.runs.Goals as goal

pub loop-rank-init : goal.loop-rank-init
unfolding sum_below
loop-rank-init c =
    let none : c.args.from - c.args.from ≡ 0 = omega arith in
    (omega arith, omega arith, sym (ap (sum_below (λ k. run c.args.self.now.columns.now c.args.length (c.args.from + k))) none), omega arith)

pub times-requires : goal.times-requires
times-requires c =
    record {
      some = c.args.self.now.order.period c.loop-rank.rank (omega (arith, c.requires.here));
      short = c.requires.short;
    }

pub overflow_add-total : goal.overflow_add-total
overflow_add-total c = omega (arith, c.requires.here, c.args.self.now.order.few)

pub loop-rank-preserved : goal.loop-rank-preserved
loop-rank-preserved c =
    let at = c.loop-rank in
    let args = c.args in
    let each = run args.self.now.columns.now args.length in
    let one : at.rank + 1 - args.from ≡ at.rank - args.from + 1 = omega arith in
    let here : at.rank ≡ args.from + (at.rank - args.from) = omega arith in
    let grown = ap₂ ◌+◌ at.invariant.2 (c.times.ensures.same ∙ ap each here) in
    (omega arith, omega arith, grown ∙ sym (sum_more (λ k. each (args.from + k)) (at.rank - args.from)) ∙ sym (ap (sum_below (λ k. each (args.from + k))) one), omega (arith, c.times.ensures.small))

pub returns : goal.returns
unfolding runs_of
returns c =
    let at = c.loop-rank in
    let args = c.args in
    let all : at.rank - args.from ≡ args.until - args.from = omega arith in
    record {
      same = at.invariant.2 ∙ ap (sum_below (λ k. run args.self.now.columns.now args.length (args.from + k))) all;
      small = omega (arith, c.requires.here, c.args.self.now.order.few);
    }
