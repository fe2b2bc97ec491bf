-- `reasons::deciding::decide_assured` meets its contract. Assumes nothing.
use mathlib.Core.Path.{refl, ◌∙◌}
use Rattle.places.proofs.Answered.{passed_on, ok_answered, exit_err}
use Rattle.analysis.specs.ByEquation.{rule_of, solution_of}
use Rattle.reasons.specs.Deciding.{decides}
use Rattle.reasons.proofs.Longer.{solved-good, solved-time, decided-is}
use Rattle.reasons.proofs.deciding.decide_assured.Goals as goal

pub returns-in_err-time_of : goal.returns-in_err-time_of
unfolding solution_of rule_of
returns-in_err-time_of c = exit_err _ c.from_residual.ensures ∙ passed_on _ _ _ c.in_err-time_of.ensures

pub returns : goal.returns
unfolding rule_of decides
returns c = ok_answered _ _ (solved-good _ _ _ c.in_ok-time_of.ensures) (decided-is _ _ _ _ refl (solved-time _ _ _ c.in_ok-time_of.ensures))
