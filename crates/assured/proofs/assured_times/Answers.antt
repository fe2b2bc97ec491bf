-- `assured::assured_times` meets its contract: before each turn the entries below are those of the assessment without their slacks. Assumes nothing.
use Prim.Native.Nat.{ℕ, ◌-◌}
use mathlib.Core.Path.{◌≡◌, sym, ap, ap₂, ◌∙◌}
use mathlib.Core.List.{List}
use native.Mathlib.Omega.{arith}
use lib.ListN.{get_or, set, replicate}
use Rattle.places.specs.Places.{filled_below}
use Rattle.places.proofs.Turns.{fill_more}
use Rattle.analysis.specs.Common.Entries.{no_entry as no_whole}
use Rattle.assured.specs.declared.Entry.{Entry}
use Rattle.assured.specs.Answers.{no_entry, without_slack}
use Rattle.places.proofs.Answered.{good_of, value_of, passed_as, ok_answered, exit_err}
use Rattle.analysis.specs.declared.Assessment as whole
use Rattle.assured.specs.declared.Times as assured
use Rattle.assured.specs.Told.{Times, times_told}
use Rattle.assured.proofs.Answered.{times-assured}
use Rattle.assured.proofs.assured_times.Goals as goal

-- the entries of an assessment without their slacks, and its verdict
abbrev of_assessment : whole.Assessment → assured.Times
of_assessment a = record { entries = filled_below (λ k. without_slack (get_or a.entries k no_whole)) 8 (replicate 8 no_entry); assured = a.passes }

pub loop-place-init : goal.loop-place-init
unfolding filled_below
loop-place-init c = (omega arith, ap (replicate 8) c.no_entry-entries.ensures)

pub loop-place-preserved : goal.loop-place-preserved
loop-place-preserved c =
    let given = c.in_ok-assessment.assessment.entries in
    (omega arith, ap₂ (λ (l : List Entry) (e : Entry). set l c.loop-place.place e) c.loop-place.invariant.1 c.without_slack.ensures ∙ sym (fill_more (λ k. without_slack (get_or given k no_whole)) c.loop-place.place (replicate 8 no_entry)))

pub returns-in_err-assessment : goal.returns-in_err-assessment
returns-in_err-assessment c = exit_err _ c.from_residual.ensures ∙ passed_as _ _ _ c.in_err-assessment.ensures (ap (λ (t : Times). t.refusal) (times-assured c.args.table))

pub returns : goal.returns
returns c =
    let at = c.loop-place in
    let told = c.in_ok-assessment.ensures in
    let given = c.in_ok-assessment.assessment in
    let all : at.place ≡ 8 = omega arith in
    let filled = at.invariant.1 ∙ ap (λ (n : ℕ). filled_below (λ k. without_slack (get_or given.entries k no_whole)) n (replicate 8 no_entry)) all in
    let same = times-assured c.args.table in
    ok_answered _ _ (sym (ap (λ (t : Times). t.refusal) same) ∙ good_of _ _ told)
    ((λ j. record { entries = filled j; assured = given.passes }) ∙ ap of_assessment (value_of _ _ told) ∙ ap times_told same)
