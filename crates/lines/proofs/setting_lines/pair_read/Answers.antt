-- `lines::setting_lines::pair_read_lem` meets its contract. Assumes nothing.
use Rattle.lines.specs.Settings.{pair_read}
use Rattle.lines.proofs.setting_lines.pair_read.Goals as goal

pub returns : goal.returns
unfolding pair_read
returns c = simp (← c.extent_of.ensures.start, ← c.extent_of.ensures.end, ← c.setting_to-next.ensures) c.share_after.ensures
