-- `fidhaqooban::outputs::put_figure` meets its contract. Assumes nothing.
use mathlib.Core.Path.{refl}
use native.Mathlib.Omega.{arith}
use Rattle.fidhaqooban.specs.Numbers.{figures_of, figure_in}
use borrow.Author.Rules.{rules}
use Rattle.fidhaqooban.proofs.outputs.put_figure.Goals as goal

pub returns-in-Figure : goal.returns-in-Figure
unfolding figures_of figure_in
returns-in-Figure c = rw c.in-Figure.is record {
  answer = refl;
  bounded = omega arith;
  left = search rules;
}

pub returns-in-NoFigure : goal.returns-in-NoFigure
unfolding figures_of figure_in
returns-in-NoFigure c = rw c.in-NoFigure.is record {
  answer = refl;
  bounded = omega arith;
  left = refl;
}
