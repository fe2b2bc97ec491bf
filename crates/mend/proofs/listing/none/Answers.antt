-- `mend::listing::none` meets its contract. Assumes nothing.
use mathlib.Core.Path.{refl}
use Rattle.mend.specs.Changes.{held}
use Rattle.mend.proofs.listing.none.Goals as goal

pub returns : goal.returns
unfolding held
returns c = refl
