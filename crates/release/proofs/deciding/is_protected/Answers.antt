-- `release::deciding::is_protected` meets its contract. Assumes nothing.
use mathlib.Core.Path.{refl}
use Rattle.release.specs.Rules.{is_protected}
use Rattle.release.proofs.deciding.is_protected.Goals as goal

pub returns : goal.returns
unfolding is_protected
returns c = refl
