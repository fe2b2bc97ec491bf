-- `text::scaling::least_first_lem` meets its contract. Assumes nothing.
use Rattle.text.specs.Scaling.{least_first}
use Rattle.text.proofs.scaling.least_first.Goals as goal

pub returns : goal.returns
unfolding least_first
returns c = cc
