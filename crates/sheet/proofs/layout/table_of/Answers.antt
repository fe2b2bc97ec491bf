-- `sheet::layout::table_of` meets its contract. Assumes nothing.
use native.Mathlib.Omega.{arith}
use Rattle.sheet.specs.Layout.{start_of, size_of, table_of}
use Rattle.sheet.proofs.layout.table_of.Goals as goal

pub count-tasks-requires : goal.count-tasks-requires
unfolding size_of
count-tasks-requires c = omega arith

pub records_of-records-requires : goal.records_of-records-requires
records_of-records-requires c =
    let given = c.requires in
    rw c.count-tasks.ensures record {
      few = given.few;
      sized = given.sized;
    }

pub interval-requires : goal.interval-requires
unfolding size_of
interval-requires c = omega arith

pub round-requires : goal.round-requires
unfolding start_of size_of
round-requires c =
    record { long = omega arith; known = omega arith; header = omega arith }

pub share-requires : goal.share-requires
unfolding start_of size_of
share-requires c =
    record { long = omega arith; known = omega arith; header = omega arith }

pub returns : goal.returns
unfolding table_of
returns c =
    simp (c.share.ensures, c.round.ensures, c.interval.ensures, c.records_of-records.ensures, c.count-tasks.ensures)
