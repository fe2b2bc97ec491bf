-- `analysis::common::taken::Jump::take_faults` meets its contract. Assumes nothing.
use Prim.Native.Nat.{ℕ, ◌*◌}
use mathlib.Core.Path.{◌≡◌, refl, ap}
use native.Mathlib.Omega.{arith}
use Rattle.analysis.specs.Common.Rounding.{up}
use Rattle.analysis.proofs.Laws.Common.Taken.{faults-taken}
use Rattle.analysis.proofs.common.taken.Jump.take_faults.Goals as goal

pub returns-then-taken-eq0 : goal.returns-then-taken-eq0
returns-then-taken-eq0 c = record {
  rest = refl;
  rate = omega arith;
  passed = λ total left rises known. known;
}

pub returns-then-period-interval : goal.returns-then-period-interval
returns-then-period-interval c = record {
  rest = refl;
  rate = omega arith;
  passed = λ total left rises known. known;
}

pub returns : goal.returns
returns c =
    let args = c.args in
    let says = c.take.ensures in
    let none = says.backup in
    let gone : up args.self.now.trial args.self.now.tasks.frame.interval * c.take.result.backup ≡ up args.self.now.trial args.self.now.tasks.frame.interval * 0 = ap (λ (n : ℕ). up args.self.now.trial args.self.now.tasks.frame.interval * n) none in record {
      rest = omega (arith, says.rest, gone);
      rate = says.rate;
      passed = faults-taken args.self.now.tasks.frame args.self.now.paid args.self.now.trial none says.passed (λ total left known. record { rest = known.rest; parted = known.parted; found = known.found });
    }
