-- `analysis::common::taken::Jump::take` meets its contract. Assumes nothing.
use Prim.Native.Nat.{ℕ, ◌+◌, ◌-◌, ◌*◌}
use mathlib.Core.Path.{◌≡◌, refl, ap}
use native.Mathlib.Nat.{div-le_self}
use native.Mathlib.Omega.{arith}
use Rattle.analysis.specs.Common.Rounding.{up}
use Rattle.analysis.specs.Common.Jump.{unit}
use Rattle.analysis.proofs.Laws.Common.Taken.{term-taken}
use Rattle.analysis.proofs.common.taken.Jump.take.Goals as goal

pub overflow_add-rate : goal.overflow_add-rate
overflow_add-rate c = omega (arith, c.rate_of.ensures, div-le_self (unit * c.args.cost) c.args.period)

pub returns : goal.returns
returns c =
    let args = c.args in
    let rate = ap (λ (n : ℕ). args.taken.rate + n) c.rate_of.ensures in
    let low = div-le_self (unit * args.cost) args.period in
    let less : args.taken.rest - c.times.result + up args.self.now.trial args.period * args.cost ≡ args.taken.rest = omega (arith, c.times.ensures.same, c.requires.enough) in
    record {
      rest = less;
      rate = omega (arith, rate, low);
      backup = refl;
      passed = λ total left rises known. term-taken total args.self.now.paid args.self.now.trial args.period args.cost c.requires.some rises less rate c.further.ensures known;
    }
