-- The changes that mending makes, as a list: "It lists each change with place, field, old value and new value: the cut first (place 0, old and new length), then records by place from 1, deadline before fault priority."
use Rattle.std.specs.Prelude.{ℕ, ◌+◌, ◌-◌, cond, List, [], ◌∷◌, ◌++◌, eqb, length, replicate}
use Rattle.places.specs.Places.{joined_below}
use Rattle.sheet.specs.declared.Record.{Record}
use Rattle.sheet.specs.Layout.{count_of, said_size, sheet_record}
use Rattle.mend.specs.declared.Field.{Field}
use Rattle.mend.specs.declared.Field.TheVariants.{Length, Deadline, FaultPriority}
use Rattle.mend.specs.declared.Change.{Change}
use Rattle.mend.specs.declared.Changes.{Changes}
use Rattle.mend.specs.Mended.{mended_deadline, mended_fault}

-- a field's number: 0 length, 1 deadline, 2 fault priority
unfoldable pub field_number : Field → ℕ
field_number Length = 0
field_number Deadline = 1
field_number FaultPriority = 2

-- a change is listed where its two values differ
unfoldable pub listed : Change → List Change
listed change = cond (eqb change.old change.new) [] (change ∷ [])

-- "the cut first (place 0, old and new length)"
unfoldable pub length_change : List ℕ → Change
length_change sheet = record { place = 0; field = Length; old = length sheet; new = said_size sheet }

-- a record's deadline
unfoldable pub deadline_change : ℕ → Record → Change
deadline_change place r = record { place = place; field = Deadline; old = r.deadline; new = mended_deadline r.deadline r.period }

-- a record's fault priority
unfoldable pub fault_change : ℕ → Record → Change
fault_change place r = record { place = place; field = FaultPriority; old = r.fault_priority; new = mended_fault r.fault_priority r.priority }

-- "deadline before fault priority"
unfoldable pub record_changes : ℕ → Record → List Change
record_changes place r = listed (deadline_change place r) ++ listed (fault_change place r)

-- "then records by place from 1"
unfoldable pub changes_of : List ℕ → List Change
changes_of sheet = listed (length_change sheet) ++ joined_below (λ place. record_changes (place + 1) (sheet_record sheet place)) (count_of sheet)

-- a change of zeros
abbrev pub no_change : Change
no_change = record { place = 0; field = Length; old = 0; new = 0 }

-- a list of changes by value: their number and room for seventeen, one cut and two for each of eight records; zeros past the number
unfoldable pub held : List Change → Changes
held changes = record { count = length changes; list = changes ++ replicate (17 - length changes) no_change }
