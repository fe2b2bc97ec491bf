-- `replay::ticks::counting::counts_of` meets its contract. Assumes nothing.
use Rattle.std.proofs.Common.{refl}
use Rattle.replay.specs.Ticks.Counts.{counts_from}
use Rattle.replay.proofs.ticks.counting.counts_of.Goals as goal

pub returns : goal.returns
unfolding counts_from
returns c = refl
