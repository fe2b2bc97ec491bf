-- `analysis::time_in` meets its contract. Assumes nothing.
use mathlib.Core.Path.{ap, ◌∙◌}
use native.Mathlib.Omega.{arith}
use lib.ListN.{get_or}
use Rattle.places.proofs.Answered.{good_of, value_of, passed_on, ok_answered, exit_err}
use Rattle.analysis.specs.Common.Tasks.{Tasks}
use Rattle.analysis.specs.declared.common.by_rank.Frame.{Frame}
use Rattle.analysis.specs.ByRule.{entry_by}
use Rattle.analysis.specs.BySheet.{timed_in}
use Rattle.analysis.proofs.Laws.BySheet.{sheet-order, sheet-chosen, sheet-below, sheet-entry, table-few, place-fine}
use Rattle.analysis.proofs.time_in.Goals as goal

pub returns-in_err-frame : goal.returns-in_err-frame
unfolding timed_in
returns-in_err-frame c = exit_err _ c.from_residual.ensures ∙ passed_on _ _ _ c.in_err-frame.ensures.answer

pub bounds-ranks-place : goal.bounds-ranks-place
bounds-ranks-place c =
    let fine = place-fine _ _ _ (good_of _ _ c.in_ok-frame.ensures.answer) in
    omega (arith, fine.1, table-few _ fine.0)

pub overflow_cast-rank : goal.overflow_cast-rank
overflow_cast-rank c =
    let read = c.in_ok-frame.ensures in
    let fine = place-fine _ _ _ (good_of _ _ read.answer) in
    let framed = value_of _ _ read.answer in
    let count = ap (λ (f : Frame). f.count) framed in
    omega (arith, count, table-few _ fine.0, sheet-below _ fine.0 read.fields framed read.faults read.ranks c.args.place (rw count fine.1))

pub chosen-among-requires : goal.chosen-among-requires
chosen-among-requires c =
    let read = c.in_ok-frame.ensures in
    let fine = place-fine _ _ _ (good_of _ _ read.answer) in
    let framed = value_of _ _ read.answer in
    record { order = sheet-order _ fine.0 read.fields framed; chosen = sheet-chosen _ fine.0 read.fields framed read.faults }

pub invariant_of-entry : goal.invariant_of-entry
invariant_of-entry c =
    let read = c.in_ok-frame.ensures in
    let fine = place-fine _ _ _ (good_of _ _ read.answer) in
    let framed = value_of _ _ read.answer in
    let told = ap (λ (f : Frame). f.count) framed in
    let count = ap (λ (s : Tasks). s.count) c.chosen-among.ensures in
    record { below = omega (arith, count, sheet-below _ fine.0 read.fields framed read.faults read.ranks c.args.place (rw told fine.1)) }

pub returns : goal.returns
unfolding timed_in
returns c =
    let read = c.in_ok-frame.ensures in
    let none = good_of _ _ read.answer in
    let fine = place-fine _ _ _ none in
    ok_answered _ _ none (simp (none, c.entry.ensures ∙ ap (λ (s : Tasks). entry_by c.args.rule s (get_or c.read_at.new.ranks c.args.place 0)) c.chosen-among.ensures ∙ sheet-entry _ fine.0 read.fields (value_of _ _ read.answer) read.faults read.ranks c.args.rule c.args.place fine.1))
