-- `replay::ticks::bits::has_other` meets its contract. Assumes nothing.
use Rattle.std.proofs.Common.{refl}
use Rattle.replay.specs.Ticks.Tick.{has_other}
use Rattle.replay.proofs.ticks.bits.has_other.Goals as goal

pub returns : goal.returns
unfolding has_other
returns c = refl
