-- `margins::margin` meets its contract. Assumes nothing.
use mathlib.Core.Path.{sym, ◌∙◌}
use Rattle.places.proofs.Answered.{good_of, passed_on, ok_answered, exit_err}
use Rattle.places.proofs.Refusals.{none_of}
use Rattle.sheet.proofs.Cases.{place-below}
use Rattle.analysis.specs.ByRule.{place_refusal, rule_refusal}
use Rattle.margins.specs.Answers.{margin_answer}
use Rattle.margins.proofs.Stepped.{furthest-answered}
use Rattle.margins.proofs.margin.Goals as goal

pub returns-in_err-judge_place : goal.returns-in_err-judge_place
unfolding margin_answer
returns-in_err-judge_place c = exit_err _ c.from_residual.ensures ∙ passed_on _ _ _ c.in_err-judge_place.ensures ∙ sym (furthest-answered _ _)

pub found-requires : goal.found-requires
unfolding place_refusal
found-requires c =
    let args = c.args in
    let both = none_of (rule_refusal args.rule args.table) _ (good_of _ _ c.in_ok-judge_place.ensures) in
    record {
      good = both.0;
      placed = place-below args.place args.table.count both.1;
    }

pub returns : goal.returns
unfolding margin_answer
returns c = ok_answered _ _ (good_of _ _ c.in_ok-judge_place.ensures) c.found.ensures ∙ sym (furthest-answered _ _)
