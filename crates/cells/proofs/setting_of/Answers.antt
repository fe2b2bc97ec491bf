-- `cells::setting_of` meets its contract. Assumes nothing.
use Rattle.cells.specs.Names.{setting_of}
use Rattle.cells.proofs.setting_of.Goals as goal

pub returns : goal.returns
unfolding setting_of
returns c = simp (← c.label_of.ensures) c.setting_named.ensures
