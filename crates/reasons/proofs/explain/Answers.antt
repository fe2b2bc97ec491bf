-- `reasons::explain` meets its contract. Assumes nothing.
use native.Mathlib.Omega.{arith}
use Rattle.sheet.specs.Layout.{record_at}
use Rattle.sheet.proofs.Cases.{good-table}
use Rattle.analysis.proofs.Laws.Common.Supplier.{share-within}
use Rattle.reasons.specs.Terms.{largest_of, whose_of}
use Rattle.reasons.specs.Answers.{explained}
use Rattle.reasons.proofs.Placed.{place-few}
use Rattle.reasons.proofs.explain.Goals as goal

pub bounds-table-place : goal.bounds-table-place
bounds-table-place c = place-few c.args.table c.requires.good c.args.place c.requires.here

pub faults_of-requires : goal.faults_of-requires
faults_of-requires c =
    let length = c.length_of-length.ensures in
    let interval = (good-table c.args.table c.requires.good).interval in
    record {
      some = omega arith;
      long = length.some;
      short = length.small;
    }

pub supplier_of-supplier-requires : goal.supplier_of-supplier-requires
supplier_of-supplier-requires c =
    let shared = share-within c.args.table c.requires.good in
    record {
      some = shared.0;
      within = shared.1;
      short = c.length_of-length.ensures.small;
    }

pub returns : goal.returns
unfolding explained largest_of whose_of record_at
returns c =
    let supplier = c.supplier_of-supplier.ensures in
    let faults = c.faults_of.ensures in
    let struck = c.largest-struck.ensures in
    let tasks = c.tasks_of-tasks.ensures in
    let backup = c.own_backup-backup.ensures in
    let length = c.length_of-length.ensures.same in
    simp (c.is_late.ensures, c.total_of-total.ensures, supplier, faults, struck, tasks, backup, length)
