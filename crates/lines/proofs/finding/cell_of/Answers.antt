-- `lines::finding::cell_of` meets its contract. Assumes nothing.
use Rattle.lines.specs.Troubles.{cell_of}
use Rattle.lines.proofs.finding.cell_of.Goals as goal

pub returns : goal.returns
unfolding cell_of
returns c = simp (← c.extent_of-at.ensures.start, ← c.extent_of-at.ensures.end) c.part.ensures
