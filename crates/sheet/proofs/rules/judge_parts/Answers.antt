-- `sheet::rules::judge_parts` meets its contract: the records below the place are good, and their priorities marked. Assumes nothing.
use Prim.Native.Nat.{ℕ, ◌+◌, ◌*◌, ◌-◌, ◌<◌}
use mathlib.Core.Path.{◌≡◌, refl, sym, ap, ap₂, subst, ◌∙◌}
use mathlib.Core.Bool.{Bool, true, false}
use mathlib.Core.List.{List}
use native.Mathlib.Omega.{arith}
use lib.ListN.{length, get_or, set, take, drop}
use Rattle.places.specs.Answered.{answered}
use Rattle.places.proofs.Answered.{good_of, broken_of, ok_answered, exit_err}
use Rattle.sheet.specs.Layout.{edition_of, start_of, size_of, record_of, sheet_record}
use Rattle.sheet.specs.Rules.{refusal_of}
use Rattle.sheet.proofs.Judging.{Judging, judging-start, judging-more, judging-found, judging-done, priority-small}
use Rattle.sheet.proofs.Parts.{part_at, part_end, part-nine}
use Rattle.sheet.proofs.rules.judge_parts.Goals as goal

-- the part that is taken is the record's nine bytes
nine : (s : List ℕ) (n k : ℕ) → length s ≡ size_of (edition_of s) n → k < n → (first : ℕ) → first ≡ start_of s → length (take (first + 9 * k + 9 - (first + 9 * k)) (drop (first + 9 * k) s)) ≡ 9
nine s n k sized below first begun = ap length (part_at s first k begun) ∙ part-nine s n k sized below

-- its priority is the record's
priority-read : (s : List ℕ) (k first : ℕ) {priority : ℕ} → first ≡ start_of s → priority ≡ (record_of (take (first + 9 * k + 9 - (first + 9 * k)) (drop (first + 9 * k) s))).priority → (sheet_record s k).priority ≡ priority
unfolding sheet_record
priority-read s k first begun is = sym (is ∙ ap (λ (part : List ℕ). (record_of part).priority) (part_at s first k begun))

-- and its refusal, as the marks say whether it is taken, the record's
refusal-read : (s : List ℕ) (count k first : ℕ) (marks : List Bool) {priority : ℕ} {is_taken : Bool} → first ≡ start_of s
    → priority ≡ (record_of (take (first + 9 * k + 9 - (first + 9 * k)) (drop (first + 9 * k) s))).priority → is_taken ≡ get_or marks priority false
    → refusal_of count is_taken (record_of (take (first + 9 * k + 9 - (first + 9 * k)) (drop (first + 9 * k) s))) ≡ refusal_of count (get_or marks (sheet_record s k).priority false) (sheet_record s k)
unfolding sheet_record
refusal-read s count k first marks {priority} begun is told =
    ap₂ (refusal_of count) (told ∙ ap (λ (p : ℕ). get_or marks p false) (sym (priority-read s k first begun is))) (ap record_of (part_at s first k begun))

pub start-first-requires : goal.start-first-requires
unfolding size_of
start-first-requires c = omega arith

pub loop-place-init : goal.loop-place-init
loop-place-init c = judging-start _ _ c.requires.few

pub overflow_add-begin : goal.overflow_add-begin
overflow_add-begin c = omega (arith, part_end c.args.sheet.now _ _ c.requires.sized c.loop-place-test.true _ c.start-first.ensures)

pub overflow_add-end : goal.overflow_add-end
overflow_add-end c = omega (arith, part_end c.args.sheet.now _ _ c.requires.sized c.loop-place-test.true _ c.start-first.ensures)

pub slice_bounds-part-end : goal.slice_bounds-part-end
slice_bounds-part-end c = part_end c.args.sheet.now _ _ c.requires.sized c.loop-place-test.true _ c.start-first.ensures

pub priority_from-priority-requires : goal.priority_from-priority-requires
priority_from-priority-requires c = nine c.args.sheet.now _ _ c.requires.sized c.loop-place-test.true _ c.start-first.ensures

pub judge_record-requires : goal.judge_record-requires
judge_record-requires c = nine c.args.sheet.now _ _ c.requires.sized c.loop-place-test.true _ c.start-first.ensures

pub returns-in_err-judge_record : goal.returns-in_err-judge_record
returns-in_err-judge_record c =
    let at = c.loop-place in
    let read = refusal-read c.args.sheet.now c.args.count at.place _ at.marks c.start-first.ensures c.priority_from-priority.ensures c.is_marked.ensures in
    let told = rw read at c.in_err-judge_record.ensures in
    exit_err _ c.from_residual.ensures ∙ told ∙ ap (λ (r : ℕ). answered r tt) (judging-found _ _ c.requires.few _ _ at.invariant c.loop-place-test.true (broken_of _ _ told))

pub bounds-marks-value : goal.bounds-marks-value
bounds-marks-value c =
    let at = c.loop-place in
    let sheet : List ℕ = c.args.sheet.now in
    let read = refusal-read sheet c.args.count at.place _ at.marks c.start-first.ensures c.priority_from-priority.ensures c.is_marked.ensures in
    subst (λ (k : ℕ). k < 16) (priority-read sheet at.place _ c.start-first.ensures c.priority_from-priority.ensures)
    (priority-small _ (sheet_record sheet) c.requires.few at.marks at.place at.invariant c.loop-place-test.true (sym read ∙ good_of _ _ c.in_ok-judge_record.ensures))

pub loop-place-preserved : goal.loop-place-preserved
loop-place-preserved c =
    let at = c.loop-place in
    let sheet : List ℕ = c.args.sheet.now in
    let read = refusal-read sheet c.args.count at.place _ at.marks c.start-first.ensures c.priority_from-priority.ensures c.is_marked.ensures in
    subst (λ (k : ℕ). Judging c.args.count (sheet_record sheet) (set at.marks k true) (at.place + 1)) (priority-read sheet at.place _ c.start-first.ensures c.priority_from-priority.ensures)
    (judging-more _ (sheet_record sheet) c.requires.few at.marks at.place at.invariant c.loop-place-test.true (sym read ∙ good_of _ _ c.in_ok-judge_record.ensures))

pub returns : goal.returns
returns c = ok_answered _ _ (sym (judging-done _ _ c.requires.few _ _ c.loop-place.invariant c.loop-place-test.false)) refl
