-- A table with one change: a field of one record set to a value, or all costs and backups together by a factor in thousandths.
use Rattle.std.specs.Prelude.{ℕ, ◌*◌, cond, eqb}
use Rattle.sheet.specs.declared.Record.{Record}
use Rattle.sheet.specs.declared.Table.{Table}
use Rattle.sheet.specs.Layout.{record_at, room}
use Rattle.analysis.specs.Common.Rounding.{up}
use Rattle.margins.specs.declared.Field.{Field}
use Rattle.margins.specs.declared.Field.TheVariants.{Cost, Backup, Deadline, Period}
use Rattle.margins.specs.declared.changing.Change.{Change}
use Rattle.margins.specs.declared.changing.Change.TheVariants.{One, All}

-- a record with the field set to a value
unfoldable pub with_value : Field → ℕ → Record → Record
with_value Cost value r = record { cost = value; backup = r.backup; deadline = r.deadline; period = r.period; priority = r.priority; fault_priority = r.fault_priority }
with_value Backup value r = record { cost = r.cost; backup = value; deadline = r.deadline; period = r.period; priority = r.priority; fault_priority = r.fault_priority }
with_value Deadline value r = record { cost = r.cost; backup = r.backup; deadline = value; period = r.period; priority = r.priority; fault_priority = r.fault_priority }
with_value Period value r = record { cost = r.cost; backup = r.backup; deadline = r.deadline; period = value; priority = r.priority; fault_priority = r.fault_priority }

-- a record with another cost and another backup
abbrev pub with_figures : ℕ → ℕ → Record → Record
with_figures cost backup r = record { cost = cost; backup = backup; deadline = r.deadline; period = r.period; priority = r.priority; fault_priority = r.fault_priority }

-- "by which all costs and backups together can grow, rounded up each": a figure times a factor in thousandths
unfoldable pub grown : ℕ → ℕ → ℕ
grown factor figure = up (figure * factor) 1000

-- what a change makes of the record at a place
unfoldable pub changed_at : Change → ℕ → ℕ → Record → Record
changed_at (One field there) value place r = cond (eqb place there) (with_value field value r) r
changed_at All factor place r = with_figures (grown factor r.cost) (grown factor r.backup) r

-- a table whose records are made anew, "everything else as it is"
abbrev pub remade : Table → (ℕ → Record) → Table
remade t at = record { count = t.count; interval = t.interval; round = t.round; share = t.share; records = room at t.count }

-- the table with the change
unfoldable pub changed : Change → ℕ → Table → Table
changed change value t = remade t (λ place. changed_at change value place (record_at t.records place))
