-- `analysis::assess_in` meets its contract. Assumes nothing.
use mathlib.Core.Path.{sym, ap, ◌∙◌}
use Rattle.places.proofs.Refusals.{none_of}
use Rattle.places.proofs.Answered.{good_of, value_of, passed_as, ok_answered, exit_err}
use Rattle.sheet.specs.Rules.{sheet_refusal}
use Rattle.analysis.specs.Told.{times_told}
use Rattle.analysis.specs.Common.Tasks.{Tasks}
use Rattle.analysis.specs.ByRule.{ranked_assessment}
use Rattle.analysis.specs.BySheet.{sheet_rule_refusal}
use Rattle.analysis.proofs.Laws.BySheet.{sheet-order, sheet-chosen, sheet-below, sheet-assessed, assessed-good, assessed-refusal}
use Rattle.analysis.proofs.assess_in.Goals as goal

pub returns-in_err-frame : goal.returns-in_err-frame
returns-in_err-frame c = exit_err _ c.from_residual.ensures ∙ passed_as _ _ _ c.in_err-frame.ensures.answer (sym (assessed-refusal c.args.rule c.args.sheet.now))

pub chosen-requires : goal.chosen-requires
unfolding sheet_rule_refusal
chosen-requires c =
    let read = c.in_ok-frame.ensures in
    let fine = none_of (sheet_refusal c.args.sheet.now) _ (good_of _ _ read.answer) in
    let framed = value_of _ _ read.answer in
    record { order = sheet-order _ fine.0 read.fields framed; chosen = sheet-chosen _ fine.0 read.fields framed read.faults }

pub assessed-requires : goal.assessed-requires
unfolding sheet_rule_refusal
assessed-requires c =
    let read = c.in_ok-frame.ensures in
    let fine = none_of (sheet_refusal c.args.sheet.now) _ (good_of _ _ read.answer) in
    let count = ap (λ (s : Tasks). s.count) c.chosen.ensures in
    rw count (sheet-below _ fine.0 read.fields (value_of _ _ read.answer) read.faults read.ranks)

pub returns : goal.returns
unfolding sheet_rule_refusal
returns c =
    let read = c.in_ok-frame.ensures in
    let fine = none_of (sheet_refusal c.args.sheet.now) _ (good_of _ _ read.answer) in
    ok_answered _ _ (assessed-refusal _ _ ∙ good_of _ _ read.answer)
    (c.assessed.ensures ∙ ap (λ (s : Tasks). times_told (ranked_assessment c.args.rule s c.read.new.ranks)) c.chosen.ensures ∙ ap times_told (sheet-assessed _ fine.0 read.fields (value_of _ _ read.answer) read.faults read.ranks c.args.rule fine.1 ∙ sym (assessed-good _ _ fine.0)))
