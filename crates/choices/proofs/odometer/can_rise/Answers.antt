-- `choices::odometer::can_rise` meets its contract. Assumes nothing.
use mathlib.Core.Path.{refl}
use native.Mathlib.Omega.{arith}
use borrow.Author.Tests.{ltb-true}
use Rattle.choices.proofs.odometer.can_rise.Goals as goal

pub returns : goal.returns
returns c = record {
  same = refl;
  room = λ rises. omega (arith, ltb-true c.args.entry c.args.priority rises);
}
