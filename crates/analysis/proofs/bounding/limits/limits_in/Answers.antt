-- `analysis::bounding::limits::limits_in` meets its contract: before each turn the limits below are filled. Assumes nothing.
use Prim.Native.Nat.{ℕ, ◌*◌, ◌/◌, ◌%◌, ◌<◌}
use mathlib.Core.Path.{◌≡◌, refl, sym, ap, ap₂, ◌∙◌}
use mathlib.Core.List.{List}
use native.Mathlib.Omega.{arith}
use lib.ListN.{set, replicate}
use Rattle.places.specs.Places.{filled_below}
use Rattle.places.proofs.Turns.{fill_more}
use Rattle.sheet.specs.Layout.{record_at}
use Rattle.sheet.proofs.Cases.{good-table}
use Rattle.analysis.specs.declared.common.by_rank.Frame.{Frame}
use Rattle.analysis.proofs.Laws.Common.Columned.{task-good}
use Rattle.analysis.proofs.Laws.Bounds.ByRank.{limit-ranked}
use Rattle.analysis.proofs.bounding.limits.limits_in.Invariants.{limit_in}
use Rattle.analysis.proofs.bounding.limits.limits_in.Goals as goal

pub loop-at-init : goal.loop-at-init
unfolding filled_below
loop-at-init c =
    (omega arith, omega (arith, (good-table c.args.table c.requires.good).count.1), refl)

pub bounds-table-at : goal.bounds-table-at
bounds-table-at c = omega (arith, c.loop-at.invariant.1)

pub limit_at-requires : goal.limit_at-requires
unfolding record_at
limit_at-requires c =
    let at = c.loop-at in
    let frame = c.requires.framed in
    let t = c.args.table in
    let here : at.at / 9 < t.count = omega arith in
    let task = task-good t c.requires.good (at.at / 9) here in
    let count = ap (λ (f : Frame). f.count) frame in
    record {
      some = task.priority.0;
      within = omega (arith, task.priority.1, count);
      largest = c.largest_backup-largest.ensures;
    }

pub loop-at-preserved : goal.loop-at-preserved
unfolding record_at
loop-at-preserved c =
    let at = c.loop-at in
    let frame = c.requires.framed in
    let args = c.args in
    let t = args.table in
    let columns = args.tasks.now.columns.now in
    let here : at.at / 9 < t.count = omega arith in
    let found = c.limit_at.ensures ∙ limit-ranked t c.requires.good columns c.requires.filled args.rule (at.at / 9) (at.at % 9) here frame in
    (omega arith, at.invariant.1, ap₂ (λ (l : List ℕ) (n : ℕ). set l at.at n) at.invariant.2 found ∙ sym (fill_more (limit_in args.rule t) at.at (replicate 72 0)))

pub returns : goal.returns
returns c =
    let args = c.args in
    let all : c.loop-at.at ≡ 9 * args.table.count = omega arith in
    c.loop-at.invariant.2 ∙ ap (λ (n : ℕ). filled_below (limit_in args.rule args.table) n (replicate 72 0)) all
