-- `replay::logs::rules::is_hasty` meets its contract. Assumes nothing.
use Rattle.replay.specs.Logs.Rules.{is_hasty}
use Rattle.replay.proofs.logs.rules.is_hasty.Goals as goal

pub returns : goal.returns
unfolding is_hasty
returns c = simp c.is_marked.ensures
