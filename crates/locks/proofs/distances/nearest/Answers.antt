-- `locks::distances::nearest` meets its contract: before each turn the least of the places below is known. Assumes nothing.
use mathlib.Core.Path.{◌∙◌}
use Rattle.places.specs.Places.{least_below}
use Rattle.places.proofs.Turns.{last_turn, least-turn}
use Rattle.locks.specs.Jobs.{job_at}
use Rattle.locks.specs.Distances.{nearest}
use borrow.Author.Rules.{rules}
use Rattle.locks.proofs.distances.nearest.Invariants.{counts, far}
use Rattle.locks.proofs.distances.nearest.Goals as goal

pub loop-place-init : goal.loop-place-init
unfolding least_below
loop-place-init c = search rules

pub loop-place-preserved : goal.loop-place-preserved
unfolding job_at
loop-place-preserved c =
    let at = c.loop-place in
    let given = c.args in
    (search rules, c.nearer-near.ensures ∙ least-turn (counts given.resource given.jobs) given.period (far given.phase given.period given.jobs) at.invariant.1 c.has_bit.ensures c.distance.ensures)

pub returns : goal.returns
unfolding nearest
returns c =
    let given = c.args in
    last_turn (least_below given.period (counts given.resource given.jobs) (far given.phase given.period given.jobs)) c.loop-place.invariant.1 c.loop-place.invariant.0 c.loop-place-test.false
