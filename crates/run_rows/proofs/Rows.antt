-- The starred rows of document 01, 1 to 8 and 20, as documents 02's requests 2 and 3 have them, and rows in which every field and every term matters, the share of request 6 among them, as one table under one statement, by computation. Assumes nothing.
use Rattle.std.proofs.Common.{◌≡◌, ℕ, zero, suc, ◌+◌, ◌*◌, ◌<◌, ◌≤◌, Bool, true, false, List, [], ◌∷◌, ◌++◌, length, pos, neg_ℤ, sym, refl, ◌∙◌, true≢false, arith}
use Rattle.places.specs.Places.{filled_below, some_below, sum_below, most_below}
use Rattle.places.specs.Search.{first_from}
use Rattle.sheet.specs.declared.Table.{Table}
use Rattle.sheet.specs.Packing.{regrouped}
use Rattle.sheet.specs.Layout.{header_of, count_of, edition_of, interval_of, round_of, share_of, start_of, part_of, record_from, record_of, sheet_record, record_at, room, table_of}
use Rattle.analysis.specs.declared.Outcome.TheVariants.{OnTime, Late}
use Rattle.analysis.specs.declared.Slack.TheVariants.{Figure, NoFigure}
use Rattle.analysis.specs.declared.Entry.{Entry}
use Rattle.analysis.specs.Common.Rounding.{up}
use Rattle.analysis.specs.Common.Tasks.{tasks_of, fault_at, own_choice}
use Rattle.analysis.specs.Common.Backups.{others, everyone, backup_of, largest_backup, backup_elsewhere, backup_from_fault}
use Rattle.analysis.specs.Published.Equations.{asked_elsewhere, asked_itself, is_between, struck_elsewhere, struck_itself}
use Rattle.analysis.specs.Common.Supplier.{supplier_of}
use Rattle.analysis.specs.Common.Search.{least_within}
use Rattle.analysis.specs.Published.Response.{time_elsewhere, time_itself, response_within, response_time, passes}
use Rattle.analysis.specs.Common.Entries.{is_late, outcome_of, slack_of, entry_from, own_tasks}
use Rattle.analysis.specs.Published.Answers.{entry_of, least_interval}
use Rattle.analysis.specs.Common.Columns.{priorities_of}
use Rattle.choices.specs.Choices.{in_row, entries_for, spread, choices_of, sift, chosen, passing_of}
use Rattle.choices.specs.Order.{before, after_of}
use Rattle.analysis.proofs.Laws.Published.Halving.{passing_kept, halved-found}

-- Sheet A with an interval, and with the last byte of each record, which holds priority and fault priority
unfoldable pub sheet_a : ℕ → ℕ → ℕ → ℕ → List ℕ
sheet_a interval first second third =
    0x30 ∷ 0 ∷ interval ∷ 0 ∷ 4 ∷ 0 ∷ 4 ∷ 0 ∷ 12 ∷ 0 ∷ 12 ∷ first ∷ 0 ∷ 3 ∷ 0 ∷ 3 ∷ 0 ∷ 20 ∷ 0 ∷ 20 ∷ second ∷ 0 ∷ 1 ∷ 0 ∷ 1 ∷ 0 ∷ 35 ∷ 0 ∷ 35 ∷ third ∷ []

-- one task C 1, B 1, D 2, T 2, with an interval
unfoldable pub lone : ℕ → List ℕ
lone interval = 0x10 ∷ 0 ∷ interval ∷ 0 ∷ 1 ∷ 0 ∷ 1 ∷ 0 ∷ 2 ∷ 0 ∷ 2 ∷ 0x11 ∷ []

-- a record's bytes, of six figures below 256
unfoldable pub task : ℕ → ℕ → ℕ → ℕ → ℕ → ℕ → List ℕ
task cost backup deadline period priority fault = 0 ∷ cost ∷ 0 ∷ backup ∷ 0 ∷ deadline ∷ 0 ∷ period ∷ (priority * 16 + fault) ∷ []

-- the bytes of records, one after the other
unfoldable pub together : List (List ℕ) → List ℕ
together [] = []
together (r ∷ rs) = r ++ together rs

-- the sheet of an interval and records
unfoldable pub sheet : ℕ → List (List ℕ) → List ℕ
sheet interval records = (length records * 16) ∷ 0 ∷ interval ∷ together records

-- the sheet of the second edition of an interval, a round, our share of it and records
unfoldable pub shared_sheet : ℕ → ℕ → ℕ → List (List ℕ) → List ℕ
shared_sheet interval round share records = (length records * 16 + 1) ∷ 0 ∷ interval ∷ 0 ∷ round ∷ 0 ∷ share ∷ together records

-- a sheet in which times, lateness, list, walk and least interval all depend on the round and on the share
unfoldable pub radio : List ℕ
radio = shared_sheet 43 19 10 (task 2 5 50 82 3 1 ∷ task 7 1 51 87 2 2 ∷ task 5 2 43 51 1 1 ∷ [])

-- the least interval, where a table passes at one and not at the one before it: passing is kept when the interval grows
pub least-next : (t : Table) (fails : ℕ) → 1 ≤ fails → fails < 65535 → passes (tasks_of t fails (own_choice t)) ≡ false → passes (tasks_of t (suc fails) (own_choice t)) ≡ true → least_interval t ≡ suc fails
unfolding least_interval
least-next t fails some few failing passing =
    halved-found test 65535 fails (suc fails)
    (record { apart = (some, omega arith, omega arith); below = λ k low high. go k low high (test k) refl; above = λ h. passing })
    (omega arith)
    (omega arith)
  where
    test : ℕ → Bool
    test interval = passes (tasks_of t interval (own_choice t))

    go : (k : ℕ) → 1 ≤ k → k < suc fails → (b : Bool) → test k ≡ b → test k ≡ false
    go k low high false e = e
    go k low high true e = absurd (true≢false (sym (passing_kept t (own_choice t) k fails low (omega arith) e) ∙ failing))

-- three entries as a choice
unfoldable pub choice : ℕ → ℕ → ℕ → List ℕ
choice first second third = first ∷ second ∷ third ∷ 0 ∷ 0 ∷ 0 ∷ 0 ∷ 0 ∷ []

-- the entries of the records below n, in their order
unfoldable pub entries_below : (ℕ → Entry) → ℕ → List Entry
entries_below entry zero = []
entries_below entry (suc n) = entries_below entry n ++ (entry n ∷ [])

-- the entries of a sheet's records
unfoldable pub times : List ℕ → List Entry
times sheet = entries_below (entry_of (own_tasks (table_of sheet))) (count_of sheet)

-- an entry on time: its deadline, its time, and what is left to the deadline
unfoldable pub on_time : ℕ → ℕ → ℕ → Entry
on_time deadline time left = record { deadline = deadline; outcome = OnTime time; slack = Figure (pos left) }

-- a late entry: its deadline, and by how much it is late
unfoldable pub late_by : ℕ → ℕ → Entry
late_by deadline ticks = record { deadline = deadline; outcome = Late; slack = Figure (neg_ℤ (pos ticks)) }

-- a late entry without a figure
unfoldable pub late_beyond : ℕ → Entry
late_beyond deadline = record { deadline = deadline; outcome = Late; slack = NoFigure }

-- a row: what is asked of a sheet, and the answer
pub data Row : Type 0 where
  responses : List ℕ → List Entry → Row
  listed : List ℕ → List (List ℕ) → Row
  after : List ℕ → List ℕ → List (List ℕ) → Row
  least : List ℕ → ℕ → Row

-- the answer is the one that the definitions give
abbrev pub Holds : Row → Type 0
Holds (responses sheet answer) = times sheet ≡ answer
Holds (listed sheet answer) = passing_of (table_of sheet) ≡ answer
Holds (after sheet start answer) = after_of start (passing_of (table_of sheet)) ≡ answer
Holds (least sheet answer) = least_interval (table_of sheet) ≡ answer

pub data All : List Row → Type 0 where
  none : All []
  one : {r : Row} {rs : List Row} → Holds r → All rs → All (r ∷ rs)

-- rows 1 to 8 and 20, and those around them
unfoldable pub rows : List Row
rows =
    responses (sheet_a 10 0x33 0x22 0x11) (on_time 12 8 4 ∷ on_time 20 19 1 ∷ on_time 35 20 15 ∷ []) ∷
    responses (sheet_a 9 0x33 0x22 0x11) (on_time 12 8 4 ∷ late_by 20 3 ∷ on_time 35 35 0 ∷ []) ∷
    responses (sheet_a 9 0x31 0x22 0x11) (late_by 12 6 ∷ on_time 20 17 3 ∷ on_time 35 35 0 ∷ []) ∷
    responses (sheet_a 9 0x31 0x21 0x11) (late_by 12 6 ∷ on_time 20 18 2 ∷ on_time 35 35 0 ∷ []) ∷
    responses (lone 2) (on_time 2 2 0 ∷ []) ∷
    responses (lone 1) (late_beyond 2 ∷ []) ∷
    listed (sheet_a 9 0x33 0x22 0x11) [] ∷
    listed (sheet_a 8 0x33 0x22 0x11) [] ∷
    after (sheet_a 9 0x33 0x22 0x11) (choice 1 1 1) [] ∷
    -- row 9, and the rest of its list after 2 1 1, so that some list has members
    listed (sheet_a 10 0x33 0x22 0x11) (choice 2 1 1 ∷ choice 2 2 1 ∷ choice 3 1 1 ∷ choice 3 2 1 ∷ []) ∷
    after (sheet_a 10 0x33 0x22 0x11) (choice 2 1 1) (choice 2 2 1 ∷ choice 3 1 1 ∷ choice 3 2 1 ∷ []) ∷
    -- request 3's sheet
    responses (sheet 100 (task 4 4 100 100 3 1 ∷ task 2 1 7 7 2 2 ∷ task 1 1 100 100 1 1 ∷ [])) (on_time 100 14 86 ∷ on_time 7 7 0 ∷ on_time 100 13 87 ∷ []) ∷
    -- C and B, D and T differ in each task, and each term decides
    responses (sheet 13 (task 3 1 15 30 1 1 ∷ task 2 4 8 21 2 1 ∷ task 2 7 11 44 3 1 ∷ task 1 5 11 49 4 1 ∷ [])) (late_by 15 9 ∷ late_by 8 1 ∷ late_by 11 10 ∷ late_by 11 10 ∷ []) ∷
    responses (sheet 12 (task 5 2 26 47 3 1 ∷ task 2 4 9 20 4 1 ∷ task 4 1 6 9 1 1 ∷ task 5 1 12 39 2 1 ∷ [])) (late_by 26 3 ∷ late_by 9 25 ∷ late_by 6 24 ∷ late_by 12 5 ∷ []) ∷
    responses (sheet 20 (task 3 2 22 57 3 2 ∷ task 5 3 6 40 1 1 ∷ task 6 7 56 59 4 1 ∷ task 2 5 15 16 2 1 ∷ [])) (on_time 22 11 11 ∷ late_by 6 26 ∷ on_time 56 32 24 ∷ late_by 15 1 ∷ []) ∷
    responses (sheet 20 (task 3 5 42 55 2 1 ∷ task 4 5 12 14 3 2 ∷ task 2 6 8 42 1 1 ∷ task 2 7 16 40 4 1 ∷ [])) (on_time 42 14 28 ∷ on_time 12 11 1 ∷ late_by 8 25 ∷ late_by 16 22 ∷ []) ∷
    responses (sheet 13 (task 1 6 6 26 4 1 ∷ task 4 7 23 40 2 2 ∷ task 2 5 48 60 3 2 ∷ task 1 2 8 35 1 1 ∷ [])) (late_by 6 20 ∷ on_time 23 21 2 ∷ on_time 48 8 40 ∷ late_by 8 14 ∷ []) ∷
    responses (sheet 12 (task 1 6 7 10 3 2 ∷ task 3 5 30 31 1 1 ∷ task 3 6 12 36 4 1 ∷ task 1 7 24 50 2 2 ∷ [])) (late_by 7 3 ∷ on_time 30 24 6 ∷ late_by 12 10 ∷ on_time 24 20 4 ∷ []) ∷
    responses (sheet 19 (task 5 1 6 43 2 1 ∷ task 2 3 15 50 1 1 ∷ task 2 4 8 49 3 3 ∷ task 1 6 46 59 4 1 ∷ [])) (late_by 6 6 ∷ late_by 15 1 ∷ on_time 8 7 1 ∷ on_time 46 27 19 ∷ []) ∷
    responses (sheet 12 (task 3 6 34 58 2 2 ∷ task 2 6 32 60 1 1 ∷ task 3 7 23 25 4 2 ∷ task 2 6 10 53 3 2 ∷ [])) (on_time 34 22 12 ∷ on_time 32 24 8 ∷ on_time 23 21 2 ∷ late_by 10 1 ∷ []) ∷
    responses (sheet 24 (task 3 2 11 43 3 2 ∷ task 6 3 9 50 1 1 ∷ task 4 7 42 52 4 1 ∷ task 4 5 13 15 2 2 ∷ [])) (on_time 11 9 2 ∷ late_by 9 30 ∷ on_time 42 40 2 ∷ late_by 13 3 ∷ []) ∷
    responses (sheet 14 (task 3 2 11 24 2 1 ∷ task 4 3 13 29 3 2 ∷ task 2 5 7 26 1 1 ∷ task 3 7 29 40 4 2 ∷ [])) (late_by 11 13 ∷ on_time 13 10 3 ∷ late_by 7 33 ∷ on_time 29 25 4 ∷ []) ∷
    responses (sheet 17 (task 4 5 27 33 2 1 ∷ task 5 4 20 45 4 3 ∷ task 2 1 6 40 1 1 ∷ task 3 7 8 38 3 1 ∷ [])) (on_time 27 17 10 ∷ on_time 20 9 11 ∷ late_by 6 22 ∷ late_by 8 22 ∷ []) ∷
    responses (sheet 14 (task 2 5 25 39 1 1 ∷ task 4 5 5 42 2 1 ∷ task 4 6 27 32 3 1 ∷ [])) (on_time 25 22 3 ∷ late_by 5 8 ∷ on_time 27 24 3 ∷ []) ∷
    -- a shared processor
    responses radio (late_by 50 3 ∷ on_time 51 19 32 ∷ on_time 43 37 6 ∷ []) ∷
    responses (shared_sheet 55 11 6 (task 4 7 10 75 3 3 ∷ task 3 3 33 65 2 2 ∷ task 1 1 35 35 1 1 ∷ [])) (late_by 10 11 ∷ on_time 33 29 4 ∷ on_time 35 30 5 ∷ []) ∷
    listed radio (choice 2 1 1 ∷ choice 2 2 1 ∷ choice 3 1 1 ∷ choice 3 2 1 ∷ []) ∷
    after radio (choice 2 2 1) (choice 3 1 1 ∷ choice 3 2 1 ∷ []) ∷
    least radio 48 ∷
    []

pub rows-hold : All rows
unfolding rows times choice sheet_a lone task together sheet shared_sheet radio
    header_of count_of edition_of interval_of round_of share_of start_of part_of record_from record_of sheet_record record_at room table_of regrouped filled_below some_below
    up sum_below most_below fault_at own_choice others everyone backup_of largest_backup backup_elsewhere backup_from_fault
    is_between supplier_of asked_elsewhere struck_elsewhere asked_itself struck_itself first_from least_within time_elsewhere time_itself response_within response_time is_late passes
    outcome_of slack_of entry_from entry_of entries_below on_time late_by late_beyond
    priorities_of in_row entries_for spread choices_of sift chosen passing_of before after_of
rows-hold = one refl (one refl (one refl (one refl (one refl (one refl (one refl (one refl (one refl (one refl (one refl (one refl (one refl (one refl (one refl (one refl (one refl (one refl (one refl (one refl (one refl (one refl (one refl (one refl (one refl (one refl (one refl (one refl (one (least-next (table_of radio) 47 (omega arith) (omega arith) refl refl) none))))))))))))))))))))))))))))
