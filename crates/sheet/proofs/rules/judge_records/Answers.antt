-- `sheet::rules::judge_records` meets its contract: the records below the place are good, and their priorities marked. Assumes nothing.
use Prim.Native.Nat.{ℕ}
use mathlib.Core.Path.{◌≡◌, sym, ap, ◌∙◌}
use mathlib.Core.Bool.{Bool, false}
use mathlib.Core.List.{List}
use lib.ListN.{get_or}
use Rattle.places.specs.Answered.{answered}
use Rattle.places.proofs.Answered.{good_of, broken_of}
use Rattle.sheet.specs.declared.Record.{Record}
use Rattle.sheet.specs.Layout.{record_at}
use Rattle.sheet.specs.Rules.{refusal_of, records_judged}
use Rattle.sheet.proofs.Judging.{judging-start, judging-more, judging-found, judging-at, judging-done, priority-small}
use Rattle.sheet.proofs.Told.{broken-good, broken-is}
use Rattle.sheet.proofs.rules.judge_records.Goals as goal

-- what was judged, the marks read
marked : (count : ℕ) (task : Record) (marks : List Bool) {is_taken : Bool} → is_taken ≡ get_or marks task.priority false → refusal_of count is_taken task ≡ refusal_of count (get_or marks task.priority false) task
marked count task marks is = ap (λ (b : Bool). refusal_of count b task) is

pub loop-place-init : goal.loop-place-init
loop-place-init c = judging-start _ _ c.requires

pub returns-in-Err : goal.returns-in-Err
unfolding record_at records_judged
returns-in-Err c =
    let at = c.loop-place in
    let told = rw (marked c.args.count (record_at c.args.records at.place) at.marks c.is_marked.ensures) at c.in-Err.ensures in
    let broken = broken_of _ _ told in
    broken-is _ (told ∙ ap (λ (r : ℕ). answered r tt) (judging-found _ _ c.requires _ _ at.invariant c.loop-place-test.true broken))
    (judging-at _ _ c.requires _ _ at.invariant c.loop-place-test.true broken)

pub bounds-marks-value : goal.bounds-marks-value
unfolding record_at
bounds-marks-value c =
    let at = c.loop-place in
    let read = marked c.args.count (record_at c.args.records at.place) at.marks c.is_marked.ensures in
    priority-small _ (record_at c.args.records) c.requires at.marks at.place at.invariant c.loop-place-test.true (sym read ∙ good_of _ _ c.in_default.ensures)

pub loop-place-preserved : goal.loop-place-preserved
unfolding record_at
loop-place-preserved c =
    let at = c.loop-place in
    let read = marked c.args.count (record_at c.args.records at.place) at.marks c.is_marked.ensures in
    judging-more _ (record_at c.args.records) c.requires at.marks at.place at.invariant c.loop-place-test.true (sym read ∙ good_of _ _ c.in_default.ensures)

pub returns : goal.returns
unfolding records_judged
returns c = broken-good _ (sym (judging-done _ _ c.requires _ _ c.loop-place.invariant c.loop-place-test.false))
