-- `sheet::layout::round` meets its contract. Assumes nothing.
use Rattle.sheet.specs.Layout.{round_of}
use Rattle.sheet.proofs.layout.round.Goals as goal

pub returns : goal.returns
unfolding round_of
returns c = c.new_field.ensures
