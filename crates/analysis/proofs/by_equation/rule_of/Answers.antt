-- `analysis::by_equation::rule_of` meets its contract. Assumes nothing.
use mathlib.Core.Path.{sym, ap}
use Rattle.analysis.specs.ByEquation.{rule_of}
use Rattle.analysis.proofs.by_equation.rule_of.Goals as goal

pub returns-in-Elsewhere : goal.returns-in-Elsewhere
unfolding rule_of
returns-in-Elsewhere c = sym (ap rule_of c.in-Elsewhere.is)

pub returns-in-Itself : goal.returns-in-Itself
unfolding rule_of
returns-in-Itself c = sym (ap rule_of c.in-Itself.is)

pub returns-in-Assurance : goal.returns-in-Assurance
unfolding rule_of
returns-in-Assurance c = sym (ap rule_of c.in-Assurance.is)
