-- `analysis::common::taken::Jump::take_rank` meets its contract. Assumes nothing.
use Prim.Native.Nat.{ℕ, ◌+◌, ◌*◌, ◌≤◌}
use mathlib.Core.Path.{◌≡◌, ap}
use native.Mathlib.Omega.{arith}
use Rattle.analysis.specs.Common.Rounding.{up}
use Rattle.analysis.specs.Common.Jump.{struck_of}
use Rattle.analysis.specs.Common.ByRank.{run_of}
use Rattle.analysis.proofs.Laws.Common.Taken.{rising-term, both-taken}
use Rattle.analysis.proofs.common.taken.Jump.take_rank.Goals as goal

pub take-requires : goal.take-requires
take-requires c =
    let args = c.args in
    let tasks = args.self.now.tasks in
    let faults = c.take_faults.ensures in
    let room : run_of tasks.columns.now args.rank args.self.now.trial + struck_of tasks.frame args.taken args.self.now.trial ≤ args.taken.rest = c.requires.enough in
    let enough : run_of tasks.columns.now args.rank args.self.now.trial ≤ c.take_faults.result.rest = omega (arith, faults.rest, room) in
    record { some = tasks.order.period args.rank c.requires.below; enough = enough; slow = omega (arith, faults.rate, c.requires.slow) }

pub returns : goal.returns
returns c =
    let faults = c.take_faults.ensures in
    let args = c.args in
    let term = c.take.ensures in
    let kept : struck_of args.self.now.tasks.frame c.take.result args.self.now.trial ≡ struck_of args.self.now.tasks.frame c.take_faults.result args.self.now.trial = ap (λ (n : ℕ). up args.self.now.trial args.self.now.tasks.frame.interval * n) term.backup in record {
      rest = omega (arith, faults.rest, term.rest, kept);
      rate = omega (arith, faults.rate, term.rate);
      passed = both-taken args.self.now.tasks.frame args.self.now.paid args.self.now.trial (run_of args.self.now.tasks.columns.now args.rank) (rising-term _ _) term.backup faults.passed term.passed;
    }
