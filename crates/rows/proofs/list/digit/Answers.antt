-- `rows::list::digit` meets its contract: a figure or a letter. Assumes nothing.
use Rattle.std.proofs.Common.{le-ltb, lt-ltb}
use Rattle.rows.specs.Answers.{glyph}
use Rattle.rows.proofs.list.digit.Goals as goal

pub returns-then-figure-lt10 : goal.returns-then-figure-lt10
unfolding glyph
returns-then-figure-lt10 c = simp (lt-ltb _ 10 c.if-figure-lt10.true)

pub returns-else-figure-lt10 : goal.returns-else-figure-lt10
unfolding glyph
returns-else-figure-lt10 c = simp (le-ltb _ 10 c.if-figure-lt10.false)
