-- The rules that a sheet and a table by value are judged by, in the order they are tried: 1 to 5 with 1 again after 3, 18, and 6 to 10 for each record; and 19 where a whole processor is asked for.
use Rattle.std.specs.Prelude.{ℕ, zero, suc, Bool, cond, not, ◌&&◌, ◌||◌, List, eqb, ltb, leb, length}
use Rattle.places.specs.Places.{some_below}
use Rattle.places.specs.Refusals.{or_else, first_below}
use Rattle.sheet.specs.declared.Record.{Record}
use Rattle.sheet.specs.declared.Table.{Table}
use Rattle.sheet.specs.Told.{Judged}
use Rattle.sheet.specs.Layout.{count_of, edition_of, interval_of, round_of, share_of, start_of, said_size, sheet_record, record_at, table_of, is_whole, table_edition}

-- "0 or above" a limit, which is outside 1 to that limit
unfoldable pub outside : ℕ → ℕ → Bool
outside x limit = eqb x 0 || ltb limit x

-- whether an earlier record than the one at the place has the priority
unfoldable pub taken : (ℕ → Record) → ℕ → ℕ → Bool
taken at place priority = some_below (λ earlier. eqb (at earlier).priority priority) place

-- Rules 6 to 10, in that order, on one record among n, of which it is known whether an earlier one has its priority:
-- "C is 0 or above D", "B is 0 or above D", "D is above T", "p is outside 1 to n, or an earlier record has it", "q is outside 1 to p".
unfoldable pub refusal_of : ℕ → Bool → Record → ℕ
refusal_of n is_taken r =
    cond (outside r.cost r.deadline) 6
    (cond (outside r.backup r.deadline) 7
    (cond (ltb r.period r.deadline) 8
    (cond (outside r.priority n || is_taken) 9
    (cond (outside r.fault_priority r.priority) 10 0))))

-- the same of the record at a place
unfoldable pub record_refusal : ℕ → (ℕ → Record) → ℕ → ℕ
record_refusal n at place = refusal_of n (taken at place (at place).priority) (at place)

-- "Rules 6 to 10 are tried in that order on the first record, then on the next."
unfoldable pub records_refusal : ℕ → (ℕ → Record) → ℕ
records_refusal n at = first_below (record_refusal n at) n

-- "18, S zero or not below Q": asked of the new edition only, since the old one is "the one table allowed with S not below Q"
unfoldable pub wrong_share : ℕ → ℕ → ℕ → Bool
wrong_share edition round share = not (eqb edition 0) && (eqb share 0 || leb round share)

-- Rules 1 to 3, which keep a header from saying how long its sheet is: document 01's "the sheet has fewer than 3 bytes", "the count is 0 or above 8", and document 02's "3 now means reserved bits above 1"
abbrev pub size_refusal : List ℕ → ℕ
size_refusal sheet =
    cond (ltb (length sheet) 3) 1
    (cond (outside (count_of sheet) 8) 2
    (cond (ltb 1 (edition_of sheet)) 3 0))

-- Rules 1 to 5 and 18 in the order they are tried: these, then document 02's "1 also means fewer than 7 bytes in the new edition, tried after 3", document 01's "the length is not 3 + 9 × count" with document 02's
-- "so its length is 7 + 9n", document 01's "E is 0", and document 02's "18, S zero or not below Q, is tried after 5".
unfoldable pub header_refusal : List ℕ → ℕ
header_refusal sheet =
    or_else (size_refusal sheet)
    (cond (ltb (length sheet) (start_of sheet)) 1
    (cond (not (eqb (length sheet) (said_size sheet))) 4
    (cond (eqb (interval_of sheet) 0) 5
    (cond (wrong_share (edition_of sheet) (round_of sheet) (share_of sheet)) 18 0))))

-- a sheet's refusal: its header's, then its records'
unfoldable pub sheet_refusal : List ℕ → ℕ
sheet_refusal sheet = or_else (header_refusal sheet) (records_refusal (count_of sheet) (sheet_record sheet))

-- rules 2, 5 and 18 on a table's figures, which are tried before its records; 18 "on tables by value too but for that one", Q = S = 1, which is the old edition's
abbrev pub figures_refusal : Table → ℕ
figures_refusal t =
    cond (outside t.count 8) 2
    (cond (eqb t.interval 0) 5
    (cond (wrong_share (table_edition t) t.round t.share) 18 0))

-- "A table handed in by value is judged by the same rules where they apply (2, 5 to 10), and its records past the count are ignored."
unfoldable pub table_refusal : Table → ℕ
table_refusal t = or_else (figures_refusal t) (records_refusal t.count (record_at t.records))

-- the first place below n that is refused; 0 where none is
unfoldable pub broken_below : (ℕ → ℕ) → ℕ → ℕ
broken_below refusal zero = 0
broken_below refusal (suc n) = cond (eqb (first_below refusal n) 0) (cond (eqb (refusal n) 0) 0 n) (broken_below refusal n)

-- records judged: the refusal beside the place of the record that it is given for
unfoldable pub records_judged : ℕ → (ℕ → Record) → Judged
records_judged n at = record { refusal = records_refusal n at; place = broken_below (record_refusal n at) n }

-- the place of the record that a table is refused for: the first that breaks a rule of 6 to 10; 0 beside a refusal that is no record's, and where there is none
unfoldable pub broken_place : Table → ℕ
broken_place t = cond (eqb (figures_refusal t) 0) (broken_below (record_refusal t.count (record_at t.records)) t.count) 0

-- "19 .. for a shared processor": 0 for the whole one
unfoldable pub shared_refusal : Table → ℕ
shared_refusal t = cond (is_whole t.round t.share) 0 19

-- what a table is refused for where a whole processor is asked for: its own rules, then that
abbrev pub whole_refusal : Table → ℕ
whole_refusal t = or_else (table_refusal t) (shared_refusal t)

-- the same of a sheet: "19, after a sheet's own, for a shared processor"
unfoldable pub whole_sheet_refusal : List ℕ → ℕ
whole_sheet_refusal sheet = or_else (sheet_refusal sheet) (shared_refusal (table_of sheet))
