-- `replay::ticks::bits::released` meets its contract: the set bits are the members of the set. Assumes nothing.
use Rattle.std.proofs.Common.{sym, ap, ◌∙◌, mod-eq_of_lt, arith}
use lib.Count.{ones, ones-le}
use Rattle.replay.specs.Ticks.Tick.{is_released}
use Rattle.replay.proofs.OfTicks.Binary.{ones-count, bits-digits}
use Rattle.replay.proofs.ticks.bits.released.Goals as goal

pub overflow_cast-result : goal.overflow_cast-result
overflow_cast-result c = omega (arith, ones-le 8 c.args.releases c.ranges.releases.fits)

pub returns : goal.returns
returns c =
    let releases = c.args.releases in
    ap ones (sym (bits-digits releases 8 ∙ mod-eq_of_lt c.ranges.releases.fits)) ∙ ones-count (is_released releases) 8
