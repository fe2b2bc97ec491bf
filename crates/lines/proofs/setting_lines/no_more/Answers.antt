-- `lines::setting_lines::no_more` meets its contract. Assumes nothing.
use Rattle.lines.specs.Settings.{no_more}
use Rattle.lines.proofs.setting_lines.no_more.Goals as goal

pub returns-then-is_refused-words : goal.returns-then-is_refused-words
unfolding no_more
returns-then-is_refused-words c = simp (← c.is_refused.ensures, c.if-is_refused-words.true)

pub returns : goal.returns
unfolding no_more
returns c = simp (← c.is_refused.ensures, c.if-is_refused-words.false, ← c.extent_of.ensures.start, ← c.extent_of.ensures.end) c.fails.ensures
