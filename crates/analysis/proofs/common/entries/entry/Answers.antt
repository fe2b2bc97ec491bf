-- `analysis::common::entries::entry` meets its contract. Assumes nothing.
use Rattle.analysis.specs.Common.Entries.{entry_from}
use Rattle.analysis.proofs.common.entries.entry.Goals as goal

pub returns : goal.returns
unfolding entry_from
returns c = simp (c.margin.ensures, c.outcome.ensures)
