-- `locks::running::phase` meets its contract. Assumes nothing.
use mathlib.Core.Path.{refl}
use native.Mathlib.Nat.{mod-lt}
use native.Mathlib.Omega.{arith}
use Rattle.locks.proofs.running.phase.Goals as goal

pub overflow_cast-result-2 : goal.overflow_cast-result-2
overflow_cast-result-2 c = record { fits = omega (arith, mod-lt c.args.time {m = c.args.period} c.requires) }

pub returns : goal.returns
returns c = record {
  rest = refl;
  below = mod-lt _ c.requires;
}
