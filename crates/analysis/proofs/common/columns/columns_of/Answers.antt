-- `analysis::common::columns::columns_of` meets its contract: before each turn the places below are filled. Assumes nothing.
use Prim.Native.Nat.{ℕ, ◌<◌}
use mathlib.Core.Path.{◌≡◌, sym, ap, ◌∙◌}
use mathlib.Core.List.{List}
use native.Mathlib.Omega.{arith}
use lib.ListN.{set, replicate}
use Rattle.places.specs.Places.{filled_below}
use Rattle.places.proofs.Turns.{fill_more}
use Rattle.sheet.specs.Layout.{record_at}
use Rattle.sheet.proofs.Cases.{good-table}
use Rattle.analysis.specs.Common.Columns.{priorities_of, backups_of}
use borrow.Author.Rules.{rules}
use Rattle.analysis.proofs.common.columns.columns_of.Invariants.{priority_of, backup_of}
use Rattle.analysis.proofs.common.columns.columns_of.Goals as goal

pub loop-place-init : goal.loop-place-init
unfolding filled_below
loop-place-init c = search rules

pub bounds-records-place : goal.bounds-records-place
bounds-records-place c =
    let in-room : c.loop-place.place < 8 = omega (arith, (good-table c.args.table c.requires).count.1) in
    in-room

pub bounds-priorities-place : goal.bounds-priorities-place
bounds-priorities-place c =
    let in-room : c.loop-place.place < 8 = omega (arith, (good-table c.args.table c.requires).count.1) in
    in-room

pub bounds-records-place-in-loop-place : goal.bounds-records-place-in-loop-place
bounds-records-place-in-loop-place c =
    let in-room : c.loop-place.place < 8 = omega (arith, (good-table c.args.table c.requires).count.1) in
    in-room

pub bounds-backups-place : goal.bounds-backups-place
bounds-backups-place c =
    let in-room : c.loop-place.place < 8 = omega (arith, (good-table c.args.table c.requires).count.1) in
    in-room

pub loop-place-preserved : goal.loop-place-preserved
unfolding record_at
loop-place-preserved c =
    let at = c.loop-place in
    let records = c.args.table.records in (
      search rules,
      ap (λ (l : List ℕ). set l at.place (priority_of records at.place)) at.invariant.1 ∙ sym (fill_more (priority_of records) at.place (replicate 8 0)),
      ap (λ (l : List ℕ). set l at.place (backup_of records at.place)) at.invariant.2 ∙ sym (fill_more (backup_of records) at.place (replicate 8 0)),
    )

pub returns : goal.returns
unfolding priorities_of backups_of
returns c =
    let at = c.loop-place in
    let table = c.args.table in
    let all : at.place ≡ table.count = omega arith in
    record {
      priorities = at.invariant.1 ∙ ap (λ (n : ℕ). filled_below (priority_of table.records) n (replicate 8 0)) all;
      backups = at.invariant.2 ∙ ap (λ (n : ℕ). filled_below (backup_of table.records) n (replicate 8 0)) all;
    }
