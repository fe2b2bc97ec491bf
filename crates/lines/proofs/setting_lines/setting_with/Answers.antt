-- `lines::setting_lines::setting_with` meets its contract. Assumes nothing.
use Rattle.lines.specs.Settings.{setting_with}
use Rattle.lines.specs.Troubles.{with_settings}
use borrow.Author.Tests.{eq-eqb, ne_eqb}
use Rattle.lines.proofs.setting_lines.setting_with.Goals as goal

pub returns-then-value-ne0 : goal.returns-then-value-ne0
unfolding setting_with with_settings
returns-then-value-ne0 c = simp (ne_eqb _ 0 c.if-value-ne0.true) c.fails.ensures

pub returns : goal.returns
unfolding setting_with with_settings
returns c = simp (eq-eqb _ 0 c.if-value-ne0.false, ← c.with_setting.ensures)
