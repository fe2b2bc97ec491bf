-- `text::scaling::least_down` meets its contract. Assumes nothing.
use Rattle.text.specs.Scaling.{least_down}
use borrow.Author.Rules.{rules}
use Rattle.text.proofs.scaling.least_down.Goals as goal

pub returns : goal.returns
unfolding least_down
returns c = search rules
