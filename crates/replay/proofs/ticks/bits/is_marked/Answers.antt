-- `replay::ticks::bits::is_marked` meets its contract. Assumes nothing.
use Rattle.std.proofs.Common.{refl}
use Rattle.replay.specs.Ticks.Tick.{is_marked}
use Rattle.replay.proofs.ticks.bits.is_marked.Goals as goal

pub returns : goal.returns
unfolding is_marked
returns c = refl
