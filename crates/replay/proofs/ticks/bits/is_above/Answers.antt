-- `replay::ticks::bits::is_above` meets its contract: a byte has no bit from slot 8 on. Assumes nothing.
use Rattle.std.proofs.Common.{◌≡◌, ◌/◌, ◌^◌, refl, lt_of_lt_of_le, pow_mono}
use native.Mathlib.Nat.{div-eq_of_lt}
use Rattle.replay.specs.Ticks.Tick.{is_above}
use Rattle.replay.proofs.ticks.bits.is_above.Goals as goal

pub returns-then-count-lt8 : goal.returns-then-count-lt8
unfolding is_above
returns-then-count-lt8 c = refl

pub returns : goal.returns
unfolding is_above
returns c =
    let given = c.args in
    let none : given.releases / 2 ^ given.count ≡ 0 = div-eq_of_lt (lt_of_lt_of_le c.ranges.releases.fits (pow_mono c.if-count-lt8.false)) in
    simp none
