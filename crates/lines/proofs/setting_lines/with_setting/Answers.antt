-- `lines::setting_lines::with_setting` meets its contract. Assumes nothing.
use Rattle.lines.specs.Settings.{with_setting}
use borrow.Author.Tests.{le-leb, lt-leb}
use Rattle.lines.proofs.setting_lines.with_setting.Goals as goal

pub returns-then-which-ge4 : goal.returns-then-which-ge4
unfolding with_setting
returns-then-which-ge4 c = simp (le-leb _ _ c.if-which-ge4.true)

pub returns : goal.returns
unfolding with_setting
returns c = simp (lt-leb _ _ c.if-which-ge4.false)
