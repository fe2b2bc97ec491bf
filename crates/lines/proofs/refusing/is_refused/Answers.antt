-- `lines::refusing::is_refused` meets its contract. Assumes nothing.
use Rattle.lines.specs.Troubles.{is_refused}
use borrow.Author.Rules.{rules}
use Rattle.lines.proofs.refusing.is_refused.Goals as goal

pub returns : goal.returns
unfolding is_refused
returns c = search rules
