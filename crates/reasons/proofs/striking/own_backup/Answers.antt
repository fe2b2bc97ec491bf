-- `reasons::striking::own_backup` meets its contract. Assumes nothing.
use mathlib.Core.Path.{sym, ap}
use Rattle.analysis.specs.declared.Equation.{Equation}
use Rattle.reasons.specs.Terms.{own_backup}
use Rattle.reasons.proofs.striking.own_backup.Goals as goal

pub returns-in-Elsewhere : goal.returns-in-Elsewhere
unfolding own_backup
returns-in-Elsewhere c = sym (ap (λ (e : Equation). own_backup e c.args.own) c.in-Elsewhere.is)

pub returns-in-Itself : goal.returns-in-Itself
unfolding own_backup
returns-in-Itself c = sym (ap (λ (e : Equation). own_backup e c.args.own) c.in-Itself.is)

pub returns-in-Assurance : goal.returns-in-Assurance
unfolding own_backup
returns-in-Assurance c = sym (ap (λ (e : Equation). own_backup e c.args.own) c.in-Assurance.is)
