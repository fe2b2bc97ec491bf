-- `analysis::common::tasks::Task::backup_ahead` meets its contract: before each turn the largest of what the ranks below bring is known. Assumes nothing.
use Prim.Native.Nat.{ℕ, max}
use mathlib.Core.Path.{◌≡◌, refl, sym, ap, ap₂, ◌∙◌}
use mathlib.Core.Bool.{cond}
use native.Mathlib.Omega.{arith}
use lib.Dec.{ltb}
use Rattle.places.specs.Places.{most_below}
use Rattle.places.proofs.Turns.{most-more}
use Rattle.analysis.specs.Common.Backups.{backup_of}
use Rattle.analysis.specs.Common.Demand.{largest_before}
use Rattle.analysis.specs.Common.Lent.{chosen_in}
use Rattle.analysis.specs.Assured.Equation.{is_ahead, backup_ahead}
use Rattle.analysis.proofs.Laws.Assured.ByRank.{brought_ahead, ahead_after, ahead_own}
use Rattle.analysis.proofs.Laws.Common.Lent.{under_choice}
use Rattle.analysis.proofs.common.tasks.Task.backup_ahead.Goals as goal

pub largest-before-requires : goal.largest-before-requires
largest-before-requires c = omega (arith, c.args.self.now.below)

pub loop-other-init : goal.loop-other-init
unfolding is_ahead largest_before backup_of
loop-other-init c =
    let args = c.args in
    let s = chosen_in args.self.now.among in
    let before = c.largest-before.ensures in
    (omega arith, omega (arith, c.args.self.now.below), refl, c.max-most.ensures ∙ ap (λ (n : ℕ). max n (s.at args.self.now.rank).backup) before ∙ sym (ahead_own s (under_choice c.args.self.now.among) args.self.now.rank c.args.self.now.below))

pub loop-other-preserved : goal.loop-other-preserved
unfolding is_ahead
loop-other-preserved c =
    let at = c.loop-other in
    let args = c.args in
    let s = chosen_in args.self.now.among in
    let brought = c.counted.ensures
    ∙ ap (λ (q : ℕ). cond (ltb q (s.fault at.other)) (s.at at.other).backup 0) at.invariant.2
    ∙ sym (ahead_after s (under_choice c.args.self.now.among) args.self.now.rank c.args.self.now.below at.other at.invariant.0 c.loop-other-test.true) in
    (omega arith, omega arith, at.invariant.2, c.max-most-in-loop-other.ensures ∙ ap₂ max at.invariant.3 brought ∙ sym (most-more (brought_ahead s args.self.now.rank) at.other))

pub returns : goal.returns
unfolding backup_ahead is_ahead
returns c =
    let at = c.loop-other in
    let args = c.args in
    let all : at.other ≡ args.self.now.among.tasks.frame.count = omega arith in
    at.invariant.3 ∙ ap (most_below (brought_ahead (chosen_in args.self.now.among) args.self.now.rank)) all
