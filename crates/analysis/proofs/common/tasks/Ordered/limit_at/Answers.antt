-- `analysis::common::tasks::Ordered::limit_at` meets its contract. Assumes nothing.
use Prim.Native.Nat.{ℕ, ◌-◌}
use mathlib.Core.Path.{sym, ap, ◌∙◌}
use mathlib.Core.Bool.{Bool, cond}
use native.Mathlib.Omega.{arith}
use borrow.Author.Tests.{lt-leb, le-leb}
use Rattle.analysis.specs.Common.ByRank.{backup_in}
use Rattle.analysis.specs.Common.Lent.{tasks_in}
use Rattle.analysis.specs.Bounds.Limits.{bears, limit_of}
use Rattle.analysis.proofs.common.tasks.Ordered.limit_at.Goals as goal

pub returns-then-priority-fault : goal.returns-then-priority-fault
returns-then-priority-fault c = simp (lt-leb c.args.fault c.args.priority c.if-priority-fault.true)

pub invariant_of-bearer : goal.invariant_of-bearer
invariant_of-bearer c =
    let here = c.rank_of.ensures in
    record { below = omega (arith, here, c.requires.some, c.requires.within); fits = omega (arith, here, c.if-priority-fault.false, c.requires.within) }

pub returns : goal.returns
returns c =
    let args = c.args in
    let self = args.self.now in
    let count = self.frame.count in
    let limit : ℕ → ℕ = λ rank. limit_of (bears args.rule (tasks_in self) rank args.fault) (backup_in self.columns.now) count in
    c.limit.ensures
    ∙ ap limit c.rank_of.ensures
    ∙ sym (ap (λ (is : Bool). cond is (limit (count - args.priority)) 0) (le-leb args.fault args.priority c.if-priority-fault.false))
