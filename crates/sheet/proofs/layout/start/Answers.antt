-- `sheet::layout::start` meets its contract. Assumes nothing.
use mathlib.Core.Path.{ap, ◌∙◌}
use Rattle.sheet.specs.Layout.{header_size, start_of}
use Rattle.sheet.proofs.layout.start.Goals as goal

pub returns : goal.returns
unfolding start_of
returns c = c.header_size.ensures ∙ ap header_size c.edition.ensures
