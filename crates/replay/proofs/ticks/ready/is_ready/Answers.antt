-- `replay::ticks::ready::is_ready` meets its contract. Assumes nothing.
use Rattle.std.proofs.Common.{refl}
use Rattle.replay.specs.Ticks.Cells.{is_ready}
use Rattle.replay.proofs.ticks.ready.is_ready.Goals as goal

pub returns : goal.returns
unfolding is_ready
returns c = refl
