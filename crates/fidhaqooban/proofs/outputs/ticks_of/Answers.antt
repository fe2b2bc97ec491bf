-- `fidhaqooban::outputs::ticks_of` meets its contract. Assumes nothing.
use mathlib.Core.Path.{refl}
use Rattle.fidhaqooban.specs.Numbers.{ticks_of}
use borrow.Author.Rules.{rules}
use Rattle.fidhaqooban.proofs.outputs.ticks_of.Goals as goal

pub returns-in-Figure : goal.returns-in-Figure
unfolding ticks_of
returns-in-Figure c = rw c.in-Figure.is (search rules)

pub returns-in-NoFigure : goal.returns-in-NoFigure
unfolding ticks_of
returns-in-NoFigure c = rw c.in-NoFigure.is refl
