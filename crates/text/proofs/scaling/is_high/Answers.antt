-- `text::scaling::is_high` meets its contract. Assumes nothing.
use Rattle.text.specs.Scaling.{is_high, number_at}
use borrow.Author.Rules.{rules}
use Rattle.text.proofs.scaling.is_high.Goals as goal

pub returns : goal.returns
unfolding is_high number_at
returns c = search rules
