-- What the private functions compute on the way, in the form in which they compute it; laws tie it to the definitions before. No public promise cites it.
use Rattle.std.specs.Prelude.{ℕ, ◌+◌, cond, List, ◌++◌, eqb, length, set}
use Rattle.places.specs.Places.{joined_below, filled_below}
use Rattle.sheet.specs.declared.Record.{Record}
use Rattle.sheet.specs.declared.Table.{Table}
use Rattle.sheet.specs.Layout.{said_size, record_at}
use Rattle.mend.specs.declared.Field.TheVariants.{Length}
use Rattle.mend.specs.declared.Change.{Change}
use Rattle.mend.specs.declared.Changes.{Changes}
use Rattle.mend.specs.Mended.{mended_record, is_complete}
use Rattle.mend.specs.Changes.{listed, deadline_change, fault_change, record_changes}

-- how many bytes of a sheet are kept
unfoldable pub kept_of : List ℕ → ℕ
kept_of sheet = cond (is_complete sheet) (said_size sheet) (length sheet)

-- a table with all its eight records mended; a record of zeros stays one
unfoldable pub mended_table : Table → Table
mended_table t =
    record {
      count = t.count;
      interval = t.interval;
      round = t.round;
      share = t.share;
      records = filled_below (λ place. mended_record (record_at t.records place)) 8 t.records;
    }

-- changes by value with one more, where its values differ
unfoldable pub noted : Changes → Change → Changes
noted changes change = cond (eqb change.old change.new) changes (record { count = changes.count + 1; list = set changes.list changes.count change })

-- and with those of a record
unfoldable pub noted_record : Changes → ℕ → Record → Changes
noted_record changes place r = noted (noted changes (deadline_change place r)) (fault_change place r)

-- the changes of a sheet of an old and a new length and of the records of its table
unfoldable pub table_changes : ℕ → ℕ → Table → List Change
table_changes old new t =
    listed (record { place = 0; field = Length; old = old; new = new }) ++ joined_below (λ place. record_changes (place + 1) (record_at t.records place)) t.count
