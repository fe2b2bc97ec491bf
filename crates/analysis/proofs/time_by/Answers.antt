-- `analysis::time_by` meets its contract. Assumes nothing.
use mathlib.Core.Path.{sym, subst, ◌∙◌}
use Rattle.places.proofs.Refusals.{none_of}
use Rattle.places.proofs.Answered.{good_of, passed_on, ok_answered, exit_err}
use Rattle.sheet.proofs.Cases.{place-below}
use Rattle.analysis.specs.Common.Allowed.{Within}
use Rattle.analysis.specs.ByRule.{rule_refusal, place_refusal, timed_by}
use Rattle.analysis.proofs.Laws.Common.Choice.{own-allowed}
use Rattle.analysis.proofs.Laws.ByRule.{rule-good}
use Rattle.analysis.proofs.time_by.Goals as goal

pub returns-in_err-judge_record_place : goal.returns-in_err-judge_record_place
unfolding timed_by
returns-in_err-judge_record_place c = exit_err _ c.from_residual.ensures ∙ passed_on _ _ _ c.in_err-judge_record_place.ensures

pub entry_of-requires : goal.entry_of-requires
unfolding place_refusal
entry_of-requires c =
    let table = c.args.table in
    let fine = none_of (rule_refusal c.args.rule table) _ (good_of _ _ c.in_ok-judge_record_place.ensures) in
    let good = rule-good _ table fine.0 in
    record {
      good = good;
      within = subst (Within table) (sym c.own_choice.ensures) (own-allowed table good).each;
      here = place-below _ _ fine.1;
    }

pub returns : goal.returns
unfolding timed_by
returns c =
    let good = good_of _ _ c.in_ok-judge_record_place.ensures in
    ok_answered _ _ good (simp (good, c.entry_of.ensures, c.own_choice.ensures))
