-- `lines::setting_lines::share_after` meets its contract. Assumes nothing.
use Rattle.lines.specs.Settings.{share_after}
use Rattle.lines.proofs.setting_lines.share_after.Goals as goal

pub returns-then-is_refused : goal.returns-then-is_refused
unfolding share_after
returns-then-is_refused c = simp (← c.is_refused.ensures, c.if-is_refused.true)

pub returns : goal.returns
unfolding share_after
returns c = simp (← c.is_refused.ensures, c.if-is_refused.false, ← c.extent_of.ensures.start, ← c.extent_of.ensures.end) c.setting_to.ensures
