-- `sheet::good_count` meets its contract: the header's refusal, then the records'. Assumes nothing.
use mathlib.Core.Path.{◌∙◌}
use Rattle.places.proofs.Refusals.{next-of}
use Rattle.places.proofs.Answered.{good_of, value_of, first_refused, then_answered, passed_on, ok_answered, exit_err}
use Rattle.sheet.specs.Rules.{sheet_refusal}
use Rattle.sheet.proofs.Cases.{good-header}
use Rattle.sheet.proofs.good_count.Goals as goal

pub returns-in_err-count : goal.returns-in_err-count
unfolding sheet_refusal
returns-in_err-count c = exit_err _ c.from_residual.ensures ∙ first_refused _ _ _ c.in_err-count.ensures _

pub judge_parts-requires : goal.judge_parts-requires
judge_parts-requires c =
    let good = good-header c.args.sheet.now (good_of _ _ c.in_ok-count.ensures) in
    rw (value_of _ _ c.in_ok-count.ensures) record { few = good.count.1; sized = good.size }

pub returns-in_err-judge_parts : goal.returns-in_err-judge_parts
unfolding sheet_refusal
returns-in_err-judge_parts c =
    let told = rw (value_of _ _ c.in_ok-count.ensures) at c.in_err-judge_parts.ensures in
    exit_err _ c.from_residual-in_err-judge_parts.ensures ∙ passed_on _ _ _ told ∙ then_answered _ _ (good_of _ _ c.in_ok-count.ensures)

pub returns : goal.returns
unfolding sheet_refusal
returns c =
    let counted = value_of _ _ c.in_ok-count.ensures in
    let told = rw counted at c.in_ok-judge_parts.ensures in
    ok_answered _ _ (next-of _ (good_of _ _ c.in_ok-count.ensures) ∙ good_of _ _ told) counted
