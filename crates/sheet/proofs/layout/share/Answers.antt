-- `sheet::layout::share` meets its contract. Assumes nothing.
use Rattle.sheet.specs.Layout.{share_of}
use Rattle.sheet.proofs.layout.share.Goals as goal

pub returns : goal.returns
unfolding share_of
returns c = c.new_field.ensures
