-- `lines::refusing::fails_at_end` meets its contract. Assumes nothing.
use Rattle.lines.specs.Troubles.{fails_at_end}
use Rattle.lines.proofs.refusing.fails_at_end.Goals as goal

pub returns : goal.returns
unfolding fails_at_end
returns c = c.fails.ensures
