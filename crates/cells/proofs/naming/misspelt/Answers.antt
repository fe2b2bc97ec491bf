-- `cells::naming::misspelt` meets its contract. Assumes nothing.
use Rattle.cells.specs.Names.{misspelt}
use Rattle.cells.proofs.naming.misspelt.Goals as goal

pub returns : goal.returns
unfolding misspelt
returns c = simp c.no_name.ensures
