-- `reasons::adding::amount` meets its contract. Assumes nothing.
use Prim.Native.Nat.{◌≤◌}
use mathlib.Core.Path.{refl}
use native.Mathlib.Nat.{mul-le-mul}
use native.Mathlib.Omega.{arith}
use Rattle.reasons.proofs.adding.amount.Goals as goal

pub overflow_mul-result : goal.overflow_mul-result
overflow_mul-result c =
    let a : c.args.times ≤ 4294967295 = omega arith in
    let b : c.args.ticks ≤ 65535 = omega arith in
    omega (arith, mul-le-mul a b)

pub returns : goal.returns
returns c =
    let a : c.args.times ≤ 4294967295 = omega arith in
    let b : c.args.ticks ≤ 65535 = omega arith in
    record {
      same = refl;
      small = mul-le-mul a b;
    }
