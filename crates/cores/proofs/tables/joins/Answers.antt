-- `cores::tables::joins` meets its contract. Assumes nothing.
use mathlib.Core.Path.{refl}
use Rattle.cores.specs.FirstFit.{joins}
use Rattle.cores.proofs.tables.joins.Goals as goal

pub returns : goal.returns
unfolding joins
returns c = refl
