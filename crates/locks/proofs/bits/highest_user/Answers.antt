-- `locks::bits::highest_user` meets its contract: before each turn the highest of the places below is known. Assumes nothing.
use mathlib.Core.Path.{◌∙◌}
use Rattle.places.specs.Places.{highest_below}
use Rattle.places.proofs.Turns.{last_turn, highest-turn}
use Rattle.locks.specs.Bits.{has_bit, highest_user}
use borrow.Author.Rules.{rules}
use Rattle.locks.proofs.bits.highest_user.Goals as goal

pub loop-place-init : goal.loop-place-init
unfolding highest_below
loop-place-init c = search rules

pub loop-place-preserved : goal.loop-place-preserved
loop-place-preserved c =
    let at = c.loop-place in
    let given = c.args in
    (search rules, c.higher-highest.ensures ∙ highest-turn (has_bit given.users) at.invariant.1 c.has_bit.ensures)

pub returns : goal.returns
unfolding highest_user
returns c = last_turn (highest_below (has_bit c.args.users)) c.loop-place.invariant.1 c.loop-place.invariant.0 c.loop-place-test.false
