-- `analysis::common::tasks::Task::has_time` meets its contract. Assumes nothing.
use Prim.Native.Nat.{ℕ}
use mathlib.Core.Path.{ap, ◌∙◌}
use mathlib.Core.Bool.{not}
use lib.Dec.{eqb}
use Rattle.analysis.proofs.common.tasks.Task.has_time.Goals as goal

pub returns : goal.returns
returns c = c.reaches.ensures ∙ ap (λ (n : ℕ). not (eqb n 0)) (c.search.ensures c.args.limit)
