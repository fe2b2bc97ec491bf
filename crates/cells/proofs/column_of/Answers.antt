-- `cells::column_of` meets its contract. Assumes nothing.
use Rattle.cells.specs.Names.{column_of}
use Rattle.cells.proofs.column_of.Goals as goal

pub returns : goal.returns
unfolding column_of
returns c = simp (← c.label_of.ensures) c.column_named.ensures
