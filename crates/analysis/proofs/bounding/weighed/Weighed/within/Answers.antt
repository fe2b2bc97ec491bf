-- `analysis::bounding::weighed::Weighed::within` meets its contract: every record so far is within its limits. Assumes nothing.
use mathlib.Core.Path.{◌≡◌, refl, sym, ap, ◌∙◌}
use mathlib.Core.Bool.{not}
use native.Mathlib.Omega.{arith}
use Rattle.places.specs.Places.{some_below}
use Rattle.places.proofs.Turns.{none_more}
use Rattle.places.proofs.Some.{some-found}
use Rattle.analysis.specs.Bounds.Within.{within_bounds}
use Rattle.analysis.specs.Bounds.Lent.{weighed_in}
use Rattle.analysis.proofs.Laws.Bounds.Weighing.{past, too-high, limits-decide}
use Rattle.analysis.proofs.bounding.weighed.Weighed.within.Goals as goal

pub loop-place-init : goal.loop-place-init
unfolding some_below
loop-place-init c = (omega arith, refl)

pub returns-then-self-place-gt8 : goal.returns-then-self-place-gt8
unfolding within_bounds
returns-then-self-place-gt8 c =
    let at = c.loop-place in
    let self = c.args.self.now in
    let each = past c.args.rule (weighed_in self) self.choice.now in
    sym (ap not (some-found each at.place self.count c.loop-place-test.true (too-high c.args.rule (weighed_in self) self.choice.now at.place c.if-self-place-gt8.true)))

pub loop-place-preserved : goal.loop-place-preserved
loop-place-preserved c =
    let at = c.loop-place in
    let self = c.args.self.now in
    let decided = limits-decide c.args.rule (weighed_in self) self.choice.now at.place c.if-self-place-gt8.false c.is_below.ensures in
    (omega arith, none_more (past c.args.rule (weighed_in self) self.choice.now) at.place at.invariant.1 (decided ∙ ap not c.if-not-is_below.false))

pub returns-then-not-is_below : goal.returns-then-not-is_below
unfolding within_bounds
returns-then-not-is_below c =
    let at = c.loop-place in
    let self = c.args.self.now in
    let decided = limits-decide c.args.rule (weighed_in self) self.choice.now at.place c.if-self-place-gt8.false c.is_below.ensures in
    sym (ap not (some-found (past c.args.rule (weighed_in self) self.choice.now) at.place self.count c.loop-place-test.true (decided ∙ ap not c.if-not-is_below.true)))

pub returns : goal.returns
unfolding within_bounds
returns c =
    let at = c.loop-place in
    let self = c.args.self.now in
    let all : at.place ≡ self.count = omega arith in
    sym (ap not (ap (some_below (past c.args.rule (weighed_in self) self.choice.now)) (sym all) ∙ at.invariant.1))
