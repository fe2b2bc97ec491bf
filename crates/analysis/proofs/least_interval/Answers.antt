-- `analysis::least_interval` meets its contract. Assumes nothing.
use mathlib.Core.Path.{ap, ◌∙◌}
use Rattle.analysis.specs.Told.{least_told}
use Rattle.analysis.proofs.Laws.ByRule.{interval-published}
use Rattle.analysis.proofs.least_interval.Goals as goal

pub returns : goal.returns
returns c = c.least_interval_by.ensures ∙ ap least_told (interval-published c.args.table)
