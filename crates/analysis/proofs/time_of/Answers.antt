-- `analysis::time_of` meets its contract. Assumes nothing.
use mathlib.Core.Path.{sym, ap, subst, ◌∙◌}
use Rattle.places.proofs.Refusals.{none_of}
use Rattle.places.proofs.Answered.{good_of, passed_as, ok_answered, exit_err}
use Rattle.sheet.proofs.Cases.{place-below}
use Rattle.analysis.specs.declared.Rule.{Rule}
use Rattle.analysis.specs.Common.Allowed.{Within}
use Rattle.analysis.specs.ByRule.{rule_refusal, place_refusal}
use Rattle.analysis.specs.ByEquation.{solution_of}
use Rattle.analysis.proofs.Laws.Common.Choice.{own-allowed}
use Rattle.analysis.proofs.Laws.ByRule.{rule-good}
use Rattle.analysis.proofs.time_of.Goals as goal

pub returns-in_err-judge_record_place : goal.returns-in_err-judge_record_place
unfolding solution_of
returns-in_err-judge_record_place c =
    let given = c.args in
    exit_err _ c.from_residual.ensures ∙ passed_as _ _ _ c.in_err-judge_record_place.ensures (ap (λ (r : Rule). place_refusal r given.table given.place) c.rule_of.ensures)

pub time_under-requires : goal.time_under-requires
unfolding place_refusal
time_under-requires c =
    let table = c.args.table in
    let fine = none_of (rule_refusal c.rule_of.result table) _ (good_of _ _ c.in_ok-judge_record_place.ensures) in
    let good = rule-good _ table fine.0 in
    record {
      good = good;
      within = subst (Within table) (sym c.own_choice.ensures) (own-allowed table good).each;
      here = place-below _ _ fine.1;
    }

pub returns : goal.returns
unfolding solution_of
returns c =
    let given = c.args in
    let good = sym (ap (λ (r : Rule). place_refusal r given.table given.place) c.rule_of.ensures) ∙ good_of _ _ c.in_ok-judge_record_place.ensures in
    ok_answered _ _ good (simp (good, c.time_under.ensures, c.own_choice.ensures))
