-- The change as the code makes it, in fields of 16 bits, and the values in the order in which the code asks for them, the easiest first. An inner device, tied to the change and the margin by laws; no public promise cites it.
use Rattle.std.specs.Prelude.{ℕ, ◌+◌, ◌-◌, ◌≤◌, ◌<◌, cond, eqb, leb}
use Rattle.sheet.specs.declared.Record.{Record}
use Rattle.sheet.specs.declared.Table.{Table}
use Rattle.sheet.specs.Layout.{record_at}
use Rattle.margins.specs.declared.changing.Change.{Change}
use Rattle.margins.specs.declared.changing.Change.TheVariants.{One, All}
use Rattle.margins.specs.Changes.{with_value, with_figures, grown, remade}
use Rattle.margins.specs.Margins.{asks_least}

-- a value that has room in what is changed
abbrev pub InRoom : Change → ℕ → Type 0
InRoom (One field place) value = value ≤ 65535
InRoom All factor = factor ≤ 65535000

-- a change of a record below the count, or of all
abbrev pub Placed : Table → Change → Type 0
Placed t (One field place) = place < t.count
Placed t All = Unit

-- a figure by a factor, 0 where that is above the limit
unfoldable pub fitted : ℕ → ℕ → ℕ → ℕ
fitted factor limit figure = cond (leb (grown factor figure) limit) (grown factor figure) 0

-- what is made of the record at a place
unfoldable pub fitted_at : Change → ℕ → ℕ → Record → Record
fitted_at (One field there) value place r = cond (eqb place there) (with_value field value r) r
fitted_at All factor place r = with_figures (fitted factor r.deadline r.cost) (fitted factor r.deadline r.backup) r

-- and of the table
unfoldable pub fitted_to : Change → ℕ → Table → Table
fitted_to change value t = remade t (λ place. fitted_at change value place (record_at t.records place))

-- the value at a step from 1 on: the numbers from 1 up where the largest is asked for, from the last one down where the least is
unfoldable pub value_at : Change → ℕ → ℕ → ℕ
value_at change last step = cond (asks_least change) (last + 1 - step) step
