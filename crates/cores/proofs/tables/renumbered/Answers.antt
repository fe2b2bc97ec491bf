-- `cores::tables::renumbered` meets its contract. Assumes nothing.
use mathlib.Core.Path.{refl}
use Rattle.cores.specs.Renumbered.{renumbered}
use Rattle.cores.proofs.tables.renumbered.Goals as goal

pub returns : goal.returns
unfolding renumbered
returns c = refl
