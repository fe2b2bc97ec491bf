-- `analysis::by_rule::entry_of` meets its contract. Assumes nothing.
use mathlib.Core.Path.{◌∙◌}
use Rattle.analysis.proofs.Laws.ByRule.{entry-there}
use Rattle.analysis.proofs.by_rule.entry_of.Goals as goal

pub returns : goal.returns
returns c =
    let task = c.task_of-task.ensures in
    let args = c.args in
    c.entry.ensures ∙ entry-there args.table c.requires.good _ task.filled args.choice _ task.beside task.framed args.rule args.place c.requires.here task.rank
