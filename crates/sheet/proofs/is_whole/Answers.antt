-- `sheet::is_whole` meets its contract. Assumes nothing.
use mathlib.Core.Path.{refl}
use Rattle.sheet.specs.Layout.{is_whole}
use Rattle.sheet.proofs.is_whole.Goals as goal

pub returns : goal.returns
unfolding is_whole
returns c = refl
