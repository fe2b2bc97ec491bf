-- `reasons::why` meets its contract. Assumes nothing.
use Prim.Native.Nat.{ℕ, ◌≤◌}
use mathlib.Core.Path.{sym, ap, subst, ◌∙◌}
use Rattle.std.specs.Prelude.{IfSome, unwrap_or}
use Rattle.places.proofs.Answered.{good_of, value_of, passed_as, ok_answered, exit_err}
use Rattle.places.proofs.Refusals.{none_of}
use Rattle.sheet.proofs.Cases.{place-below}
use Rattle.analysis.specs.Common.Entries.{own_tasks}
use Rattle.analysis.specs.ByRule.{rule_refusal, place_refusal}
use Rattle.analysis.specs.ByEquation.{time_of}
use Rattle.analysis.proofs.Laws.ByRule.{rule-good}
use Rattle.reasons.specs.declared.deciding.Decided.{Decided}
use Rattle.reasons.specs.Told.{Reason, reason_told}
use Rattle.reasons.specs.Deciding.{decides, decided_of}
use Rattle.reasons.specs.Answers.{explained}
use Rattle.reasons.proofs.Longer.{some-told, some-kept}
use Rattle.reasons.proofs.Demands.{reason-given, reason-refusal}
use Rattle.reasons.proofs.why.Goals as goal

pub returns-in_err-decided : goal.returns-in_err-decided
returns-in_err-decided c = exit_err _ c.from_residual.ensures ∙ passed_as _ _ _ c.in_err-decided.ensures (sym (reason-refusal _ _ _))

pub explain-requires : goal.explain-requires
unfolding place_refusal decided_of
explain-requires c =
    let given = c.args in
    let fine = none_of (rule_refusal given.rule given.table) _ (good_of _ _ c.in_ok-decided.ensures) in
    record {
      good = rule-good given.rule given.table fine.0;
      here = place-below given.place given.table.count fine.1;
      some = subst (λ (d : Decided). IfSome d.time (λ n. 1 ≤ n)) (sym (value_of _ _ c.in_ok-decided.ensures)) (some-kept _);
    }

pub returns : goal.returns
unfolding decided_of
returns c =
    let given = c.args in
    let good = good_of _ _ c.in_ok-decided.ensures in
    let equation = decides given.rule (own_tasks given.table) given.place in
    let reason = c.explain.ensures
    ∙ ap (λ (d : Decided). reason_told (explained d.equation (unwrap_or d.time 0) given.table given.place)) (value_of _ _ c.in_ok-decided.ensures)
    ∙ ap (λ (n : ℕ). reason_told (explained equation n given.table given.place)) (some-told (time_of equation (own_tasks given.table) given.place))
    ∙ sym (ap (λ (r : Reason). reason_told r) (reason-given given.rule given.table given.place good)) in
    ok_answered _ _ (reason-refusal _ _ _ ∙ good) reason
