-- `rows::tables::record` meets its contract: each field is read at its number. Assumes nothing.
use Rattle.std.proofs.Common.{refl}
use Rattle.rows.specs.Tables.{record_of}
use Rattle.rows.proofs.tables.record.Goals as goal

pub returns : goal.returns
unfolding record_of
returns c = refl
