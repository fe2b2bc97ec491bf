-- `analysis::common::tasks::Task::is_late` meets its contract. Assumes nothing.
use Prim.Native.Nat.{◌≤◌}
use mathlib.Core.Path.{sym, ap, ◌∙◌}
use mathlib.Core.Bool.{not}
use native.Mathlib.Omega.{arith}
use lib.Dec.{eqb}
use Rattle.analysis.specs.Published.Response.{time_elsewhere, time_itself}
use Rattle.analysis.specs.Common.Lent.{chosen_in}
use Rattle.analysis.specs.ByEquation.{asked_by}
use Rattle.analysis.proofs.Laws.Published.Lateness.{late-either, second-asked, first-missed}
use Rattle.analysis.proofs.common.tasks.Task.is_late.Goals as goal

pub returns-then-has_time : goal.returns-then-has_time
unfolding time_elsewhere time_itself asked_by
returns-then-has_time c =
    let limit = c.wide-deadline in
    let self = c.args.self.now in
    let s = chosen_in self.among in
    let within : limit.result ≤ 65535 = omega (arith, limit.ensures.small) in
    ap not c.has_time-then-has_time.ensures
    ∙ second-asked (eqb (time_elsewhere limit.result s self.rank) 0) (eqb (time_itself limit.result s self.rank) 0) (sym c.has_time.ensures ∙ c.if-has_time.true)
    ∙ sym (late-either s self.rank limit.result limit.ensures.same within)

pub returns : goal.returns
unfolding time_elsewhere asked_by
returns c =
    let limit = c.wide-deadline in
    let self = c.args.self.now in
    let s = chosen_in self.among in
    let within : limit.result ≤ 65535 = omega (arith, limit.ensures.small) in
    first-missed (eqb (time_elsewhere limit.result s self.rank) 0) (eqb (time_itself limit.result s self.rank) 0) (sym c.has_time.ensures ∙ c.if-has_time.false)
    ∙ sym (late-either s self.rank limit.result limit.ensures.same within)
