-- `replay::logs::rules::is_strange` meets its contract. Assumes nothing.
use Rattle.replay.specs.Logs.Rules.{is_strange}
use Rattle.replay.proofs.logs.rules.is_strange.Goals as goal

pub returns : goal.returns
unfolding is_strange
returns c = simp (c.is_above.ensures, c.has_other.ensures)
