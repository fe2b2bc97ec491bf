-- `locks::distances::between` meets its contract: before each turn the places below are summed. Assumes nothing.
use Prim.Native.Nat.{ℕ}
use mathlib.Core.Path.{ap, ◌∙◌}
use mathlib.Core.Bool.{cond}
use native.Mathlib.Omega.{arith}
use lib.Dec.{ltb}
use Rattle.places.specs.Places.{sum_below}
use Rattle.places.proofs.Turns.{last_turn, sum-turn}
use Rattle.locks.specs.Jobs.{job_at}
use Rattle.locks.specs.Distances.{between}
use borrow.Author.Rules.{rules}
use Rattle.locks.proofs.distances.between.Invariants.{each}
use Rattle.locks.proofs.distances.between.Goals as goal

pub loop-place-init : goal.loop-place-init
unfolding sum_below
loop-place-init c = (search rules, search rules, search rules)

pub overflow_add-sum : goal.overflow_add-sum
overflow_add-sum c = omega (arith, c.loop-place.invariant.2, c.length_before-sum.ensures.small)

pub loop-place-preserved : goal.loop-place-preserved
unfolding job_at
loop-place-preserved c =
    let at = c.loop-place in
    let given = c.args in
    let job = job_at given.jobs at.place in
    let here = c.length_before-sum.ensures.counted ∙ ap (λ (d : ℕ). cond (ltb d given.limit) job.length 0) c.distance.ensures in
    (search rules, sum-turn (each given.limit given.phase given.period given.jobs) at.invariant.1 here, omega (arith, at.invariant.2, c.length_before-sum.ensures.small))

pub returns : goal.returns
unfolding between
returns c =
    let given = c.args in
    last_turn (sum_below (each given.limit given.phase given.period given.jobs)) c.loop-place.invariant.1 c.loop-place.invariant.0 c.loop-place-test.false
