-- `replay::ticks::bits::is_released` meets its contract. Assumes nothing.
use Rattle.std.proofs.Common.{refl}
use Rattle.replay.specs.Ticks.Tick.{is_released}
use Rattle.replay.proofs.ticks.bits.is_released.Goals as goal

pub returns : goal.returns
unfolding is_released
returns c = refl
