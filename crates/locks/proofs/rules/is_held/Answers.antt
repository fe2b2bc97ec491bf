-- `locks::rules::is_held` meets its contract. Assumes nothing.
use mathlib.Core.Path.{refl}
use Rattle.locks.specs.Ceilings.{resource_at}
use Rattle.locks.specs.Rules.{is_held}
use Rattle.locks.proofs.rules.is_held.Goals as goal

pub returns : goal.returns
unfolding is_held resource_at
returns c = refl
