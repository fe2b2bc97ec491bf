-- `analysis::meets_choice` meets its contract. Assumes nothing.
use mathlib.Core.Path.{◌∙◌}
use Rattle.places.proofs.Answered.{good_of, passed_on, ok_answered, exit_err}
use Rattle.analysis.specs.Common.Entries.{verdict_of}
use Rattle.analysis.specs.ByRule.{meets_answer}
use Rattle.analysis.proofs.meets_choice.Goals as goal

pub returns-in_err-judge_choice_by : goal.returns-in_err-judge_choice_by
unfolding meets_answer verdict_of
returns-in_err-judge_choice_by c = exit_err _ c.from_residual.ensures ∙ passed_on _ _ _ c.in_err-judge_choice_by.ensures

pub meets-requires : goal.meets-requires
meets-requires c = good_of _ _ c.in_ok-judge_choice_by.ensures

pub returns : goal.returns
unfolding meets_answer verdict_of
returns c =
    let good = good_of _ _ c.in_ok-judge_choice_by.ensures in
    ok_answered _ _ good (simp (good, c.meets.ensures))
