-- `text::scaling::least_up` meets its contract. Assumes nothing.
use Rattle.text.specs.Scaling.{least_up}
use Rattle.text.proofs.scaling.least_up.Goals as goal

pub returns : goal.returns
unfolding least_up
returns c = c.up.ensures
