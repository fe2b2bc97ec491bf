-- What a listed change does to a sheet, and what stands in a field of a sheet. A second reading of the list, which it is proved to agree with; no public promise cites it. Assumes nothing.
use Rattle.std.specs.Prelude.{ℕ, ◌+◌, ◌*◌, ◌-◌, ◌≤◌, ◌≡◌, List, [], ◌∷◌, length, take}
use Rattle.std.proofs.lemmas.List.Edits.{sets}
use Rattle.sheet.specs.declared.Record.{Record}
use Rattle.sheet.specs.Layout.{count_of, start_of, sheet_record, record_bytes}
use Rattle.mend.specs.declared.Field.{Field}
use Rattle.mend.specs.declared.Field.TheVariants.{Length, Deadline, FaultPriority}
use Rattle.mend.specs.declared.Change.{Change}
use Rattle.mend.specs.declared.Changes.{Changes}
use Rattle.mend.specs.Changes.{field_number}

-- the changes that are held by value, as a list
unfoldable pub list_of : Changes → List Change
list_of changes = take changes.count changes.list

-- a record with another deadline
abbrev pub with_deadline : ℕ → Record → Record
with_deadline x r = record { cost = r.cost; backup = r.backup; deadline = x; period = r.period; priority = r.priority; fault_priority = r.fault_priority }

-- a record with another fault priority
abbrev pub with_fault : ℕ → Record → Record
with_fault x r = record { cost = r.cost; backup = r.backup; deadline = r.deadline; period = r.period; priority = r.priority; fault_priority = x }

-- a sheet with the record at a place, from 0, put anew
unfoldable pub put_at : List ℕ → ℕ → Record → List ℕ
put_at sheet place r = sets sheet (start_of sheet + 9 * place) (record_bytes r)

-- a change made to a sheet: its length or its field at its place, from 1, becomes the new value
unfoldable pub apply_at : Field → ℕ → ℕ → List ℕ → List ℕ
apply_at Length place x sheet = take x sheet
apply_at Deadline place x sheet = put_at sheet (place - 1) (with_deadline x (sheet_record sheet (place - 1)))
apply_at FaultPriority place x sheet = put_at sheet (place - 1) (with_fault x (sheet_record sheet (place - 1)))

abbrev pub apply : Change → List ℕ → List ℕ
apply change sheet = apply_at change.field change.place change.new sheet

-- a list of changes made one after the other
abbrev pub apply_all : List Change → List ℕ → List ℕ
apply_all [] sheet = sheet
apply_all (change ∷ changes) sheet = apply_all changes (apply change sheet)

-- what stands in a field of a sheet at a place, from 1
unfoldable pub value_at : Field → ℕ → List ℕ → ℕ
value_at Length place sheet = length sheet
value_at Deadline place sheet = (sheet_record sheet (place - 1)).deadline
value_at FaultPriority place sheet = (sheet_record sheet (place - 1)).fault_priority

-- the places that a field has among n records: the length place 0, the others 1 to n
unfoldable pub Place : Field → ℕ → ℕ → Type 0
Place Length n place = place ≡ 0
Place Deadline n place = (1 ≤ place) × (place ≤ n)
Place FaultPriority n place = (1 ≤ place) × (place ≤ n)

-- the change is a difference between two sheets: a field at one of its places, with the value that each sheet has there, which are not the same
pub record Difference (before after : List ℕ) (change : Change) : Type 0 where
  pub place : Place change.field (count_of before) change.place
  pub old : change.old ≡ value_at change.field change.place before
  pub new : change.new ≡ value_at change.field change.place after
  pub differs : change.old ≡ change.new → ⊥

-- a change's rank: "the cut first .., then records by place from 1, deadline before fault priority"
unfoldable pub rank : Change → ℕ
rank change = 3 * change.place + field_number change.field

-- the changes have rising ranks, from a number on and below another
abbrev pub Rises : ℕ → List Change → ℕ → Type 0
Rises low [] high = low ≤ high
Rises low (change ∷ changes) high = (low ≤ rank change) × Rises (rank change + 1) changes high
