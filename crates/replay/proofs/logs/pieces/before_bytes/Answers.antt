-- `replay::logs::pieces::before_bytes` meets its contract. Assumes nothing.
use Rattle.std.proofs.Common.{refl}
use Rattle.replay.specs.Logs.Pieces.{before_bytes}
use Rattle.replay.proofs.logs.pieces.before_bytes.Goals as goal

pub returns : goal.returns
unfolding before_bytes
returns c = refl
