-- `analysis::meets_lent` meets its contract. Assumes nothing.
use mathlib.Core.Path.{◌∙◌}
use Rattle.places.proofs.Answered.{good_of, passed_on, ok_answered, exit_err}
use Rattle.analysis.specs.Common.Entries.{verdict_of}
use Rattle.analysis.specs.Bounds.Within.{within_at, below_limits, within_bounds, within_answer}
use Rattle.analysis.proofs.Laws.Bounds.Borne.{bounds-few}
use Rattle.analysis.proofs.meets_lent.Goals as goal

pub returns-in_err-judge : goal.returns-in_err-judge
unfolding within_answer verdict_of
returns-in_err-judge c = exit_err _ c.from_residual.ensures ∙ passed_on _ _ _ c.in_err-judge.ensures

pub invariant_of-weighed : goal.invariant_of-weighed
invariant_of-weighed c = record { few = bounds-few _ _ (good_of _ _ c.in_ok-judge.ensures) }

pub returns : goal.returns
unfolding within_answer verdict_of within_bounds within_at below_limits
returns c =
    let good = good_of _ _ c.in_ok-judge.ensures in
    ok_answered _ _ good (simp (good, c.within.ensures))
