-- `sheet::layout::edition_for` meets its contract. Assumes nothing.
use mathlib.Core.Path.{sym, ◌∙◌}
use Rattle.sheet.specs.Layout.{edition_for}
use Rattle.sheet.proofs.layout.edition_for.Goals as goal

pub returns-then-is_whole : goal.returns-then-is_whole
unfolding edition_for
returns-then-is_whole c = simp (sym c.is_whole.ensures ∙ c.if-is_whole.true)

pub returns-else-is_whole : goal.returns-else-is_whole
unfolding edition_for
returns-else-is_whole c = simp (sym c.is_whole.ensures ∙ c.if-is_whole.false)
