-- `text::gathering::commented` meets its contract. Assumes nothing.
use Rattle.text.specs.Texts.{commented}
use borrow.Author.Rules.{rules}
use Rattle.text.proofs.gathering.commented.Goals as goal

pub returns : goal.returns
unfolding commented
returns c = search rules
