-- `sheet::record_of` meets its contract: the part is the record's own place in the sheet. Assumes nothing.
use Prim.Native.Nat.{ℕ, ◌+◌, ◌*◌, ◌-◌, ◌≤◌}
use mathlib.Core.Path.{◌≡◌, refl, sym, ap, subst, ◌∙◌}
use mathlib.Core.List.{List}
use native.Mathlib.Nat.{add_comm}
use native.Mathlib.Omega.{arith}
use lib.ListN.{length, take, drop}
use Rattle.std.specs.Prelude.{Ok}
use Rattle.places.specs.Answered.{answered}
use Rattle.places.proofs.Answered.{good_of, value_of, broken_of, refusal_of, exit_err}
use Rattle.sheet.specs.Layout.{start_of}
use Rattle.sheet.specs.Answers.{place_refusal, part_start, part_bytes, start_answer, Excerpted}
use Rattle.sheet.proofs.Cases.{good-place}
use Rattle.sheet.proofs.Parts.{part_at, part_end}
use Rattle.sheet.proofs.record_of.Goals as goal

-- where it was found, and that it is within the sheet
found : (s : List ℕ) (k : ℕ) {start : ℕ} → Ok start ≡ answered (start_answer s k).refusal (start_answer s k).start
    → (place_refusal s k ≡ 0) × (start ≡ start_of s + 9 * k) × (start_of s + 9 * k + 9 ≤ length s)
unfolding start_answer part_start
found s k is =
    let fine = good_of _ _ is in
    let good = good-place s k fine in
    (fine, value_of _ _ is ∙ simp fine, part_end s _ k good.0.size good.1 (start_of s) refl)

pub overflow_add-end : goal.overflow_add-end
overflow_add-end c = omega (arith, found c.args.sheet.now c.args.place c.in_ok-start.ensures)

pub slice_bounds-result-end : goal.slice_bounds-result-end
slice_bounds-result-end c = omega (arith, found c.args.sheet.now c.args.place c.in_ok-start.ensures)

pub returns-in_err-start : goal.returns-in_err-start
unfolding start_answer
returns-in_err-start c =
    let told = c.in_err-start.ensures in
    subst (Excerpted c.args.sheet c.args.place) (sym (exit_err _ c.from_residual.ensures)) (broken_of _ _ told, refusal_of _ _ told)

pub returns : goal.returns
unfolding part_bytes part_start
returns c =
    let sheet : List ℕ = c.args.sheet.now in
    let place : ℕ = c.args.place in
    let there = found sheet place c.in_ok-start.ensures in
    let good = there.0 in
    let at = there.1 in (
      good,
      record {
        block = refl;
        offset = simp (good, at) (add_comm (start_of sheet + 9 * place) c.args.sheet.ref_ptr.1);
        content = simp good (ap (λ (n : ℕ). take (n + 9 - n) (drop n sheet)) at ∙ part_at sheet _ place refl);
      },
    )
