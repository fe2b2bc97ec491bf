-- `sheet::record_start` meets its contract: the record's own place in the sheet. Assumes nothing.
use Prim.Native.Nat.{ℕ, ◌+◌, ◌*◌, ◌≤◌}
use mathlib.Core.Path.{◌≡◌, ◌∙◌}
use mathlib.Core.List.{List}
use native.Mathlib.Omega.{arith}
use lib.ListN.{length}
use Rattle.places.proofs.Answered.{good_of, passed_on, ok_answered, exit_err}
use Rattle.sheet.specs.Layout.{start_of}
use Rattle.sheet.specs.Answers.{place_refusal, part_start, start_answer}
use Rattle.sheet.proofs.Cases.{good-place}
use Rattle.sheet.proofs.Parts.{part_end}
use Rattle.sheet.proofs.record_start.Goals as goal

-- the record's nine bytes are within the sheet
inside : (s : List ℕ) (place start : ℕ) → place_refusal s place ≡ 0 → start ≡ start_of s → start + 9 * place + 9 ≤ length s
inside s place start fine is = let good = good-place s place fine in part_end s _ _ good.0.size good.1 start is

pub returns-in_err-judge_place : goal.returns-in_err-judge_place
unfolding start_answer
returns-in_err-judge_place c = exit_err _ c.from_residual.ensures ∙ passed_on _ _ _ c.in_err-judge_place.ensures

pub start-requires : goal.start-requires
start-requires c = (good-place _ _ (good_of _ _ c.in_ok-judge_place.ensures)).0.long

pub overflow_mul-result : goal.overflow_mul-result
overflow_mul-result c = omega (arith, inside _ _ _ (good_of _ _ c.in_ok-judge_place.ensures) c.start.ensures)

pub overflow_add-result : goal.overflow_add-result
overflow_add-result c = omega (arith, inside _ _ _ (good_of _ _ c.in_ok-judge_place.ensures) c.start.ensures)

pub returns : goal.returns
unfolding part_start start_answer
returns c =
    let good = good_of _ _ c.in_ok-judge_place.ensures in
    ok_answered _ _ good (simp (good, c.start.ensures))
