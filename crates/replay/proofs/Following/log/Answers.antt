-- `replay::Following::log` meets its contract. Assumes nothing.
use Rattle.std.proofs.Common.{false, ap, ◌∙◌}
use Rattle.replay.specs.Logs.Pieces.{before_bytes, before_log}
use Rattle.replay.proofs.Following.log.Goals as goal

pub returns : goal.returns
unfolding before_log
returns c = c.before_bytes.ensures ∙ ap (before_bytes false) c.start.ensures
