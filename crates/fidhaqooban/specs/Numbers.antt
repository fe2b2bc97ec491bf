-- Tables, choices, times, counts, changes and answers as the numbers that pass between C and the desk.
use Rattle.std.specs.Prelude.{ℕ, ◌+◌, ◌*◌, min, cond, List, [], ◌∷◌, eqb, ℤ, pos, neg_ℤ, length, get_or, set, take, replicate, Option, Result, Ok, Err, unwrap_or}
use Rattle.places.specs.declared.refusal.Refusal.{Refusal}
use Rattle.places.specs.Answered.{number_of}
use Rattle.places.specs.Places.{joined_below}
use Rattle.sheet.specs.declared.Record.{Record}
use Rattle.sheet.specs.declared.Table.{Table}
use Rattle.sheet.specs.Packing.{packed, unpacked}
use Rattle.sheet.specs.Layout.{room}
use Rattle.mend.specs.declared.Change.{Change}
use Rattle.mend.specs.Changes.{field_number, no_change}
use Rattle.replay.specs.declared.Counts.{Counts}
use Rattle.choices.specs.declared.Arrival.{Arrival}
use Rattle.choices.specs.declared.Arrival.TheVariants.{Found, End, Refused as Stopped}
use Rattle.analysis.specs.declared.Outcome.{Outcome}
use Rattle.analysis.specs.declared.Outcome.TheVariants.{OnTime, Late}
use Rattle.analysis.specs.declared.Entry.{Entry}
use Rattle.analysis.specs.declared.Slack.{Slack}
use Rattle.analysis.specs.declared.Slack.TheVariants.{Figure, NoFigure}

-- "A negative answer is minus the refusal number."
unfoldable pub answer_of : ℕ → ℕ → ℤ
answer_of refusal value = cond (eqb refusal 0) (pos value) (neg_ℤ (pos refusal))

-- the same of an answer
unfoldable pub number_from : Result ℕ Refusal → ℤ
number_from (Ok value) = answer_of 0 value
number_from (Err refusal) = answer_of (number_of refusal) 0

-- "a number that is not there counts as 0"
unfoldable pub number_at : List ℕ → ℕ → ℕ
number_at numbers place = get_or numbers place 0

-- "a priority above 255 counts as 255"
unfoldable pub byte_of : ℕ → ℕ
byte_of number = min number 255

-- "six numbers for each record (cost, backup, deadline, period, priority, fault priority)"
unfoldable pub given_record : List ℕ → ℕ → Record
given_record numbers place =
    record {
      cost = number_at numbers (6 * place);
      backup = number_at numbers (6 * place + 1);
      deadline = number_at numbers (6 * place + 2);
      period = number_at numbers (6 * place + 3);
      priority = byte_of (number_at numbers (6 * place + 4));
      fault_priority = byte_of (number_at numbers (6 * place + 5));
    }

-- the table whose eight records the numbers give
unfoldable pub table_from : ℕ → ℕ → ℕ → ℕ → List ℕ → Table
table_from count interval round share numbers = record { count = count; interval = interval; round = round; share = share; records = room (given_record numbers) 8 }

-- "numbers after 6 × count are ignored"
unfoldable pub given_table : ℕ → ℕ → ℕ → ℕ → List ℕ → Table
given_table count interval round share numbers = table_from count interval round share (take (6 * count) numbers)

-- an outcome's time, 0 where it is late
unfoldable pub time_of : Outcome → ℕ
time_of (OnTime time) = time
time_of Late = 0

-- how many figures a slack has
unfoldable pub figures_of : Slack → ℕ
figures_of (Figure ticks) = 1
figures_of NoFigure = 0

-- a slack's ticks, 0 where it has no figure
unfoldable pub ticks_of : Slack → ℤ
ticks_of (Figure ticks) = ticks
ticks_of NoFigure = pos 0

-- an entry's three numbers: "its response time or 0 where it is late, 1 or 0 whether the slack has a figure, the slack or 0"
unfoldable pub entry_number : Entry → ℕ → ℤ
entry_number e number = cond (eqb number 0) (pos (time_of e.outcome)) (cond (eqb number 1) (pos (figures_of e.slack)) (ticks_of e.slack))

-- an output with a slack's figure in its first place, or as it was where there is none
unfoldable pub figure_in : Slack → List ℤ → List ℤ
figure_in (Figure ticks) out = set out 0 ticks
figure_in NoFigure out = out

-- "A choice is a number of 32 bits": four bits for each record, the first one highest
unfoldable pub entries_of : ℕ → List ℕ
entries_of choice = unpacked (replicate 8 4) choice

-- the number of a choice
unfoldable pub choice_of : List ℕ → ℕ
choice_of entries = packed (replicate 8 4) entries

-- the seven counts in the header's order
unfoldable pub count_numbers : Counts → List ℕ
count_numbers c = c.first_attempts ∷ c.backups ∷ c.idle ∷ c.released ∷ c.finished ∷ c.missed ∷ c.unfinished ∷ []

-- a change's four numbers: "place, field (0 length, 1 deadline, 2 fault priority), old, new"
unfoldable pub change_numbers : Change → List ℕ
change_numbers c = c.place ∷ field_number c.field ∷ c.old ∷ c.new ∷ []

-- how many changes there are of a list, and four numbers for each
unfoldable pub changes_from : List Change → ℕ → List ℕ
changes_from list count = count ∷ joined_below (λ place. change_numbers (get_or list place no_change)) count

-- "how many changes there are, then four numbers each"
abbrev pub changes_numbers : List Change → List ℕ
changes_numbers changes = changes_from changes (length changes)

-- a least interval that is answered: 0 where there is none
unfoldable pub interval_from : Result (Option ℕ) Refusal → ℤ
interval_from (Ok least) = answer_of 0 (unwrap_or least 0)
interval_from (Err refusal) = answer_of (number_of refusal) 0

-- what a step came to, beside the entries of the walk: 0 at the end
unfoldable pub arrival_from : Arrival → List ℕ → ℤ
arrival_from (Stopped refusal) entries = answer_of (number_of refusal) 0
arrival_from Found entries = answer_of 0 (choice_of entries)
arrival_from End entries = answer_of 0 0
