-- `analysis::common::tasks::Bearer::limit` meets its contract: before each turn the largest of what is borne so far is known, and of what was tried first. Assumes nothing.
use Prim.Native.Nat.{ℕ, max}
use mathlib.Core.Path.{◌≡◌, ap, ◌∙◌}
use mathlib.Core.Bool.{true}
use native.Mathlib.Omega.{arith}
use Rattle.places.specs.Places.{most_below}
use Rattle.places.proofs.Turns.{most-more}
use Rattle.analysis.specs.Common.ByRank.{backup_in}
use Rattle.analysis.specs.Common.Lent.{tasks_in}
use Rattle.analysis.specs.Bounds.Limits.{bears, borne, limit_of}
use Rattle.analysis.proofs.Laws.Bounds.Borne.{largest-within}
use Rattle.analysis.proofs.common.tasks.Bearer.limit.Invariants.{brought}
use Rattle.analysis.proofs.common.tasks.Bearer.limit.Goals as goal

pub loop-other-init : goal.loop-other-init
unfolding most_below
loop-other-init c = (omega arith, omega arith)

pub loop-other-preserved : goal.loop-other-preserved
loop-other-preserved c =
    let at = c.loop-other in
    (omega arith, omega (arith, c.raised-most-in-loop-other.ensures, at.invariant.1, most-more (brought c.args.rule c.args.self.now) at.other))

pub returns : goal.returns
unfolding limit_of
returns c =
    let first = c.raised-most in
    let self = c.args.self.now in
    let count = self.tasks.frame.count in
    let test = bears c.args.rule (tasks_in self.tasks) self.rank self.fault in
    let all : c.loop-other.other ≡ count = omega arith in
    let sofar = c.loop-other.invariant.1 ∙ ap (λ (n : ℕ). max first.result (most_below (brought c.args.rule self) n)) all in
    let tried = first.ensures ∙ ap (λ (n : ℕ). max 0 (borne test n)) c.requires in
    let within = largest-within test (backup_in self.tasks.columns.now) count (λ k. true) in
    omega (arith, c.raised.ensures, sofar, tried, within)
