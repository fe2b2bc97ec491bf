-- `reasons::counting::begun` meets its contract. Assumes nothing.
use native.Mathlib.Omega.{arith}
use mathlib.Core.Path.{refl}
use Rattle.analysis.specs.Common.Rounding.{up}
use Rattle.analysis.proofs.Laws.Common.Rounding.{up_small}
use Rattle.reasons.proofs.counting.begun.Goals as goal

pub returns : goal.returns
unfolding up
returns c = record {
  same = refl;
  small = omega (arith, up_small c.args.length c.args.period c.requires.some, c.requires.short);
}
