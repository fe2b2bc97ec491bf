-- `analysis::common::load::times` meets its contract: a product of two numbers of 16 bits. Assumes nothing.
use Prim.Native.Nat.{◌*◌}
use mathlib.Core.Path.{ap, ap₂, ◌∙◌}
use native.Mathlib.Omega.{arith}
use Rattle.analysis.specs.Common.Rounding.{up}
use Rattle.analysis.proofs.Laws.Common.Rounding.{wide-product}
use Rattle.analysis.proofs.common.load.times.Goals as goal

pub overflow_mul-result : goal.overflow_mul-result
overflow_mul-result c = omega (arith, wide-product c.up.ensures.small c.half_wide-2.ensures.small)

pub returns : goal.returns
returns c =
    let length = c.args.length in
    record {
      same = ap₂ ◌*◌ (c.up.ensures.same ∙ ap (up length) c.half_wide.ensures.same) c.half_wide-2.ensures.same;
      small = wide-product c.up.ensures.small c.half_wide-2.ensures.small;
    }
