-- `rows::tables::table` meets its contract: the header, and eight records. Assumes nothing.
use Rattle.rows.specs.Tables.{table_of}
use Rattle.rows.proofs.tables.table.Goals as goal

pub returns : goal.returns
unfolding table_of
returns c =
    simp (c.record.ensures, c.record-2.ensures, c.record-3.ensures, c.record-4.ensures, c.record-5.ensures, c.record-6.ensures, c.record-7.ensures, c.record-8.ensures)
