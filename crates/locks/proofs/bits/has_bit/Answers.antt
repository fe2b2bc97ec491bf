-- `locks::bits::has_bit` meets its contract. Assumes nothing.
use mathlib.Core.Path.{refl}
use Rattle.locks.specs.Bits.{has_bit}
use Rattle.locks.proofs.bits.has_bit.Goals as goal

pub returns : goal.returns
unfolding has_bit
returns c = refl
