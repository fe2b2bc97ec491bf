-- The refusals row by row, in the order they are tried, as propositions: document 01's table with what document 02, request 6, made of it. A second reading, which the refusals are proved to follow; no public promise cites it. Assumes nothing.
use Rattle.std.specs.Prelude.{ℕ, ◌+◌, ◌*◌, ◌≤◌, ◌<◌, ◌≡◌, ◌⊎◌, List, [], ◌∷◌, ◌++◌, length}
use Rattle.places.specs.Places.{joined_below}
use Rattle.places.specs.Refusals.{Row, row}
use Rattle.sheet.specs.declared.Record.{Record}
use Rattle.sheet.specs.declared.Table.{Table}
use Rattle.sheet.specs.Layout.{count_of, edition_of, interval_of, round_of, share_of, sheet_record, record_at, table_of}

-- "0 or above" a limit, which is "outside 1 to" that limit
abbrev pub Outside : ℕ → ℕ → Type 0
Outside x limit = (x ≡ 0) ⊎ (limit < x)

-- "S zero or not below Q"
abbrev pub WrongShare : ℕ → ℕ → Type 0
WrongShare round share = (share ≡ 0) ⊎ (round ≤ share)

-- "the count is 0 or above 8"
abbrev pub count_row : ℕ → Row
count_row count = row 2 (Outside count 8)

-- "E is 0"
abbrev pub interval_row : ℕ → Row
interval_row interval = row 5 (interval ≡ 0)

-- Rules 6 to 10 for the record at a place, among n
unfoldable pub record_rows : ℕ → (ℕ → Record) → ℕ → List Row
record_rows n at place =
    -- "C is 0 or above D"
    row 6 (Outside (at place).cost (at place).deadline) ∷
    -- "B is 0 or above D"
    row 7 (Outside (at place).backup (at place).deadline) ∷
    -- "D is above T"
    row 8 ((at place).period < (at place).deadline) ∷
    -- "p is outside 1 to n, or an earlier record has it"
    row 9 (Outside (at place).priority n ⊎ ((j : ℕ) × (j < place) × ((at j).priority ≡ (at place).priority))) ∷
    -- "q is outside 1 to p"
    row 10 (Outside (at place).fault_priority (at place).priority) ∷
    []

-- "Rules 6 to 10 are tried in that order on the first record, then on the next."
abbrev pub records_rows : ℕ → (ℕ → Record) → List Row
records_rows n at = joined_below (record_rows n at) n

-- what is tried on a sheet before its records
unfoldable pub header_rows : List ℕ → List Row
header_rows sheet =
    -- "the sheet has fewer than 3 bytes"
    row 1 (length sheet < 3) ∷
    count_row (count_of sheet) ∷
    -- "3 now means reserved bits above 1"
    row 3 (1 < edition_of sheet) ∷
    -- "1 also means fewer than 7 bytes in the new edition, tried after 3"
    row 1 ((edition_of sheet ≡ 1) × (length sheet < 7)) ∷
    -- "the length is not 3 + 9 × count", and in the new edition "its length is 7 + 9n"
    row 4 (((edition_of sheet ≡ 0) × (length sheet ≡ 3 + 9 * count_of sheet → ⊥)) ⊎ ((edition_of sheet ≡ 1) × (length sheet ≡ 7 + 9 * count_of sheet → ⊥))) ∷
    interval_row (interval_of sheet) ∷
    -- "18, S zero or not below Q, is tried after 5"
    row 18 ((edition_of sheet ≡ 1) × WrongShare (round_of sheet) (share_of sheet)) ∷
    []

-- what is tried on a sheet
abbrev pub sheet_rows : List ℕ → List Row
sheet_rows sheet = header_rows sheet ++ records_rows (count_of sheet) (sheet_record sheet)

-- "A table handed in by value is judged by the same rules where they apply (2, 5 to 10)", and by 18 "but for that one", Q = S = 1: what is tried on it before its records
unfoldable pub figures_rows : Table → List Row
figures_rows t =
    count_row t.count ∷
    interval_row t.interval ∷
    row 18 (((t.round ≡ 1) × (t.share ≡ 1) → ⊥) × WrongShare t.round t.share) ∷
    []

-- what is tried on a table by value
abbrev pub table_rows : Table → List Row
table_rows t = figures_rows t ++ records_rows t.count (record_at t.records)

-- what is tried on a sheet where a whole processor is asked for: its own rules, and "19, after a sheet's own, for a shared processor", which is any but Q = S = 1
abbrev pub whole_rows : List ℕ → List Row
whole_rows sheet = sheet_rows sheet ++ row 19 (((table_of sheet).round ≡ 1) × ((table_of sheet).share ≡ 1) → ⊥) ∷ []

-- the numbers of the rows of a sheet and of a table
abbrev pub RuleNumber : ℕ → Type 0
RuleNumber r = ((1 ≤ r) × (r ≤ 10)) ⊎ (r ≡ 18)

-- and of those of a sheet where a whole processor is asked for
abbrev pub WholeNumber : ℕ → Type 0
WholeNumber r = RuleNumber r ⊎ (r ≡ 19)
