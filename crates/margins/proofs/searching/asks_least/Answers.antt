-- `margins::searching::asks_least` meets its contract. Assumes nothing.
use mathlib.Core.Path.{sym, ap, ◌∙◌}
use Rattle.margins.specs.Margins.{asks_least}
use Rattle.margins.proofs.searching.asks_least.Goals as goal

pub returns-in-One : goal.returns-in-One
unfolding asks_least
returns-in-One c = c.least_field.ensures ∙ sym (ap asks_least c.in-One.is)

pub returns-in-All : goal.returns-in-All
unfolding asks_least
returns-in-All c = sym (ap asks_least c.in-All.is)
