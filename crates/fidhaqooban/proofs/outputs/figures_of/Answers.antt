-- `fidhaqooban::outputs::figures_of` meets its contract. Assumes nothing.
use Rattle.std.proofs.Common.{refl}
use Rattle.fidhaqooban.specs.Numbers.{figures_of}
use Rattle.fidhaqooban.proofs.outputs.figures_of.Goals as goal

pub returns-in-Figure-clause-answer : goal.returns-in-Figure-clause-answer
unfolding figures_of
returns-in-Figure-clause-answer c = rw c.in-Figure.is refl

pub returns-in-NoFigure-clause-answer : goal.returns-in-NoFigure-clause-answer
unfolding figures_of
returns-in-NoFigure-clause-answer c = rw c.in-NoFigure.is refl
