-- `analysis::common::tasks::Task::response` meets its contract. Assumes nothing.
use mathlib.Core.Path.{◌≡◌, sym, ap₂, ◌∙◌}
use Prim.Native.Nat.{max}
use native.Mathlib.Omega.{arith}
use Rattle.analysis.proofs.Laws.Published.Larger.{late-elsewhere, late-itself, on-time}
use Rattle.analysis.specs.Published.Response.{time_elsewhere, time_itself, response_within}
use Rattle.analysis.specs.Common.Lent.{chosen_in}
use Rattle.analysis.specs.ByEquation.{asked_by}
use Rattle.analysis.proofs.common.tasks.Task.response.Goals as goal

pub returns-then-first-eq0 : goal.returns-then-first-eq0
unfolding time_elsewhere asked_by
returns-then-first-eq0 c = late-elsewhere _ _ _ (sym c.time-first.ensures.same ∙ c.if-first-eq0.true)

pub returns-then-second-eq0 : goal.returns-then-second-eq0
unfolding time_elsewhere time_itself asked_by
returns-then-second-eq0 c =
    late-itself _ _ _ (λ e. c.if-first-eq0.false (c.time-first.ensures.same ∙ e)) (sym c.time-second.ensures.same ∙ c.if-second-eq0.true)

pub returns-then-first-second : goal.returns-then-first-second
unfolding time_elsewhere time_itself asked_by
returns-then-first-second c =
    let first = c.time-first.ensures.same in
    let second = c.time-second.ensures.same in
    let both : max c.time-first.result c.time-second.result ≡ response_within c.args.limit (chosen_in c.args.self.now.among) c.args.self.now.rank = (
    ap₂ max first second ∙ on-time _ _ _ (λ e. c.if-first-eq0.false (first ∙ e)) (λ e. c.if-second-eq0.false (second ∙ e))
    ) in
    let larger : c.time-second.result ≡ max c.time-first.result c.time-second.result = omega arith in
    larger ∙ both

pub returns-else-first-second : goal.returns-else-first-second
unfolding time_elsewhere time_itself asked_by
returns-else-first-second c =
    let first = c.time-first.ensures.same in
    let second = c.time-second.ensures.same in
    let both : max c.time-first.result c.time-second.result ≡ response_within c.args.limit (chosen_in c.args.self.now.among) c.args.self.now.rank = (
    ap₂ max first second ∙ on-time _ _ _ (λ e. c.if-first-eq0.false (first ∙ e)) (λ e. c.if-second-eq0.false (second ∙ e))
    ) in
    let larger : c.time-first.result ≡ max c.time-first.result c.time-second.result = omega arith in
    larger ∙ both
