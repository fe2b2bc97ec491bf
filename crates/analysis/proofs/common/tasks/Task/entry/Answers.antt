-- `analysis::common::tasks::Task::entry` meets its contract. Assumes nothing.
use Prim.Native.Nat.{◌+◌}
use mathlib.Core.Path.{ap, ◌∙◌}
use lib.ListN.{get_or}
use Rattle.analysis.specs.Common.Entries.{entry_from}
use Rattle.analysis.specs.ByRule.{entry_by}
use Rattle.analysis.proofs.common.tasks.Task.entry.Goals as goal

pub returns : goal.returns
unfolding entry_by
returns c =
    let args = c.args in
    c.entry.ensures ∙ ap (entry_from (get_or args.self.now.among.tasks.columns.now (24 + args.self.now.rank) 0)) c.time_by-time.ensures
