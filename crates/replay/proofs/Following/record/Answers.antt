-- `replay::Following::record` meets its contract. Assumes nothing.
use Rattle.std.proofs.Common.{true, ap, ◌∙◌}
use Rattle.replay.specs.Logs.Pieces.{before_bytes, before_record}
use Rattle.replay.proofs.Following.record.Goals as goal

pub returns : goal.returns
unfolding before_record
returns c = c.before_bytes.ensures ∙ ap (before_bytes true) c.start.ensures
