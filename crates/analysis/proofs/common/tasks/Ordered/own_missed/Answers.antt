-- `analysis::common::tasks::Ordered::own_missed` meets its contract: no task before the rank misses its own backup. Assumes nothing.
use mathlib.Core.Path.{◌≡◌, refl, sym, ap, ◌∙◌}
use mathlib.Core.Bool.{not}
use native.Mathlib.Omega.{arith}
use Rattle.places.specs.Places.{some_below}
use Rattle.places.proofs.Turns.{none_more}
use Rattle.places.proofs.Some.{some-found}
use Rattle.analysis.specs.Common.Lent.{tasks_in}
use Rattle.analysis.specs.Bounds.Hopeless.{own_missed}
use borrow.Author.Rules.{rules}
use Rattle.analysis.proofs.common.tasks.Ordered.own_missed.Goals as goal

pub loop-rank-init : goal.loop-rank-init
unfolding some_below
loop-rank-init c = (omega arith, refl)

pub loop-rank-preserved : goal.loop-rank-preserved
unfolding own_missed
loop-rank-preserved c =
    let args = c.args in
    let s = tasks_in args.self.now in
    (search rules, none_more (own_missed s) c.loop-rank.rank c.loop-rank.invariant.1 (ap not (sym c.bears.ensures ∙ c.if-not-bears.false)))

pub returns-then-not-bears : goal.returns-then-not-bears
unfolding own_missed
returns-then-not-bears c =
    let args = c.args in
    let s = tasks_in args.self.now in
    sym (some-found (own_missed s) c.loop-rank.rank args.self.now.frame.count (omega arith) (ap not (sym c.bears.ensures ∙ c.if-not-bears.true)))

pub returns : goal.returns
returns c =
    let args = c.args in
    let s = tasks_in args.self.now in
    let all : c.loop-rank.rank ≡ args.self.now.frame.count = omega arith in
    sym (ap (some_below (own_missed s)) (sym all) ∙ c.loop-rank.invariant.1)
