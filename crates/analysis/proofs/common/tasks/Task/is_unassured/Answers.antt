-- `analysis::common::tasks::Task::is_unassured` meets its contract. Assumes nothing.
use Prim.Native.Nat.{◌≤◌}
use mathlib.Core.Path.{ap, ◌∙◌}
use mathlib.Core.Bool.{not, not-not}
use native.Mathlib.Omega.{arith}
use lib.Dec.{eqb}
use Rattle.analysis.specs.Assured.Time.{assured_within}
use Rattle.analysis.specs.Common.Lent.{chosen_in}
use Rattle.analysis.specs.ByEquation.{asked_by}
use Rattle.analysis.proofs.Laws.Assured.Lateness.{unassured-within}
use Rattle.analysis.proofs.common.tasks.Task.is_unassured.Goals as goal

pub returns : goal.returns
unfolding assured_within asked_by
returns c =
    let limit = c.wide-deadline in
    let self = c.args.self.now in
    let s = chosen_in self.among in
    let within : limit.result ≤ 65535 = omega (arith, limit.ensures.small) in
    ap not c.has_time.ensures ∙ not-not (eqb (assured_within limit.result s self.rank) 0) ∙ unassured-within s self.rank limit.result limit.ensures.same within
