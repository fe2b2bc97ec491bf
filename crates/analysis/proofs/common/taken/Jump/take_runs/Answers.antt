-- `analysis::common::taken::Jump::take_runs` meets its contract. Assumes nothing.
use Prim.Native.Nat.{ℕ, ◌+◌, ◌≤◌}
use mathlib.Core.Path.{◌≡◌}
use native.Mathlib.Omega.{arith}
use Rattle.analysis.specs.Common.Demand.{runs_of}
use Rattle.analysis.specs.Common.ByRank.{run_of}
use Rattle.analysis.specs.Common.Lent.{tasks_in}
use Rattle.analysis.specs.Common.Jump.{struck_of}
use Rattle.analysis.proofs.Laws.Common.Ranked.{runs-rise, runs-first, no-runs}
use Rattle.analysis.proofs.Laws.Common.Taken.{more-taken, none-taken}
use Rattle.analysis.proofs.common.taken.Jump.take_runs.Goals as goal

pub loop-rank-init : goal.loop-rank-init
loop-rank-init c = (omega arith, omega arith, omega arith, omega arith, λ r takes. takes)

pub take_rank-taken-requires : goal.take_rank-taken-requires
take_rank-taken-requires c =
    let at = c.loop-rank in
    let args = c.args in
    let s = tasks_in args.self.now.tasks in
    let first = runs-first s at.rank args.until args.self.now.trial c.loop-rank-test.true in
    let room : runs_of s args.from args.until args.self.now.trial + struck_of args.self.now.tasks.frame args.start args.self.now.trial ≤ args.start.rest = c.requires.enough in
    let enough : run_of args.self.now.tasks.columns.now at.rank args.self.now.trial + struck_of args.self.now.tasks.frame at.taken args.self.now.trial ≤ at.taken.rest = omega (arith, first, at.invariant.2, room) in
    let slow : at.taken.rate ≤ 1099511627776000 = omega (arith, at.invariant.3, c.requires.here, args.self.now.tasks.order.few, c.requires.slow) in
    record {
      below = omega (arith, c.requires.here);
      enough = enough;
      slow = slow;
    }

pub loop-rank-preserved : goal.loop-rank-preserved
loop-rank-preserved c =
    let at = c.loop-rank in
    let args = c.args in
    let s = tasks_in args.self.now.tasks in
    let says = c.take_rank-taken.ensures in
    let first : (L : ℕ) → runs_of s at.rank args.until L ≡ run_of args.self.now.tasks.columns.now at.rank L + runs_of s (at.rank + 1) args.until L = λ L. runs-first s at.rank args.until L c.loop-rank-test.true in (
      omega arith,
      omega arith,
      omega (arith, first args.self.now.trial, says.rest, at.invariant.2),
      omega (arith, says.rate, at.invariant.3),
      λ r takes. at.invariant.4 r (more-taken args.self.now.tasks.frame args.self.now.paid args.self.now.trial (run_of args.self.now.tasks.columns.now at.rank) (runs_of s (at.rank + 1) args.until) (runs_of s at.rank args.until) (runs-rise s (at.rank + 1) args.until) first says.passed takes),
    )

pub returns : goal.returns
returns c =
    let at = c.loop-rank in
    let args = c.args in
    let s = tasks_in args.self.now.tasks in
    let none : (L : ℕ) → runs_of s at.rank args.until L ≡ 0 = λ L. no-runs s at.rank args.until L (omega arith) in record {
      rest = omega (arith, none args.self.now.trial, at.invariant.2);
      rate = omega (arith, at.invariant.3, c.requires.here, args.self.now.tasks.order.few);
      passed = at.invariant.4 at.taken (none-taken args.self.now.tasks.frame args.self.now.paid args.self.now.trial (runs_of s at.rank args.until) none);
    }
