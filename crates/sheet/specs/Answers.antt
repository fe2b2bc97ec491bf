-- What each public call answers, refusals included, and what it leaves in the lent output.
use Rattle.std.specs.Prelude.{ℕ, ◌+◌, ◌*◌, ◌≡◌, cond, List, [], ◌++◌, eqb, ltb, length, drop, Result, Ok, Err}
use Rattle.std.specs.Borrow.{Bor}
use Rattle.places.specs.Refusals.{or_else}
use Rattle.places.specs.declared.refusal.Refusal.{Refusal}
use Rattle.places.specs.Answered.{numbered}
use Rattle.sheet.specs.declared.Table.{Table}
use Rattle.sheet.specs.declared.Broken.{Broken}
use Rattle.sheet.specs.declared.Ranked as figures
use Rattle.sheet.specs.Told.{Said, Judged, Reading, Ranked, Writing, Start}
use Rattle.sheet.specs.Layout.{count_of, interval_of, round_of, share_of, sheet_record, start_of, said_size, part_of, table_of, no_table, table_size, sheet_of}
use Rattle.sheet.specs.Columns.{columns_below, faults_below, ranks_below}
use Rattle.sheet.specs.Rules.{size_refusal, header_refusal, sheet_refusal, table_refusal, broken_place, whole_sheet_refusal}

-- `said_size`: the refusal of rules 1 to 3 beside the bytes that the sheet has by its header, 0 where it is refused
unfoldable pub size_answer : List ℕ → Said
size_answer sheet = record { refusal = size_refusal sheet; size = cond (eqb (size_refusal sheet) 0) (said_size sheet) 0 }

-- `read`: the refusal beside the table, a zero table where the sheet is refused
unfoldable pub read_answer : List ℕ → Reading
read_answer sheet = record { refusal = sheet_refusal sheet; table = cond (eqb (sheet_refusal sheet) 0) (table_of sheet) no_table }

-- `read_unjudged`: the header's refusal beside the table, its records as they stand; a zero table where the header is refused
unfoldable pub unjudged_answer : List ℕ → Reading
unjudged_answer sheet = record { refusal = header_refusal sheet; table = cond (eqb (header_refusal sheet) 0) (table_of sheet) no_table }

-- `read_whole`: the same with 19 for a shared processor after the sheet's refusal
unfoldable pub whole_answer : List ℕ → Reading
whole_answer sheet = record { refusal = whole_sheet_refusal sheet; table = cond (eqb (whole_sheet_refusal sheet) 0) (table_of sheet) no_table }

-- what stands beside a sheet's refusal: the figure where there is none, else 0
abbrev pub figure_of : List ℕ → ℕ → ℕ
figure_of sheet figure = cond (eqb (sheet_refusal sheet) 0) figure 0

-- `read_ranked`: the refusal beside the header's figures, zeros where the sheet is refused
unfoldable pub ranked_answer : List ℕ → Ranked
ranked_answer sheet =
    record {
      refusal = sheet_refusal sheet;
      count = figure_of sheet (count_of sheet);
      interval = figure_of sheet (interval_of sheet);
      round = figure_of sheet (round_of sheet);
      share = figure_of sheet (share_of sheet);
    }

-- the figures of it alone
abbrev pub figures_told : Ranked → figures.Ranked
figures_told ranked = record { count = ranked.count; interval = ranked.interval; round = ranked.round; share = ranked.share }

-- the columns after `read_ranked`: the sheet's records by rank, or all as they were
unfoldable pub columns_left : List ℕ → List ℕ → List ℕ
columns_left sheet columns = cond (eqb (sheet_refusal sheet) 0) (columns_below (count_of sheet) (sheet_record sheet) columns (count_of sheet)) columns

-- and the fault priorities
unfoldable pub faults_left : List ℕ → List ℕ → List ℕ
faults_left sheet faults = cond (eqb (sheet_refusal sheet) 0) (faults_below (count_of sheet) (sheet_record sheet) faults (count_of sheet)) faults

-- and the ranks
unfoldable pub ranks_left : List ℕ → List ℕ → List ℕ
ranks_left sheet ranks = cond (eqb (sheet_refusal sheet) 0) (ranks_below (count_of sheet) (sheet_record sheet) ranks (count_of sheet)) ranks

-- what a call answers that judges records: nothing where no rule is broken, else the refusal of the number, and the place
unfoldable pub broken_at : Judged → Result Unit Broken
broken_at judged = cond (eqb judged.refusal 0) (Ok tt) (Err (record { refusal = numbered judged.refusal; place = judged.place }))

-- `judge_table_at`: the table's refusal beside the place of the record that breaks the rule
unfoldable pub judged_answer : Table → Judged
judged_answer t = record { refusal = table_refusal t; place = broken_place t }

-- the refusal of a write: the table's, then 11, "the lent output is shorter than what is to be written"
unfoldable pub write_refusal : Table → List ℕ → ℕ
write_refusal t out = or_else (table_refusal t) (cond (ltb (length out) (table_size t)) 11 0)

-- `write`: the refusal beside the number of bytes written
unfoldable pub write_answer : Table → List ℕ → Writing
write_answer t out = record { refusal = write_refusal t out; written = cond (eqb (write_refusal t out) 0) (table_size t) 0 }

-- the output after `write`: the sheet and then the bytes as they were, or all of it as it was
unfoldable pub write_leaves : Table → List ℕ → List ℕ
write_leaves t out = cond (eqb (write_refusal t out) 0) (sheet_of t ++ drop (table_size t) out) out

-- the refusal of `rewrite`: the sheet's, then 11
unfoldable pub rewrite_refusal : List ℕ → List ℕ → ℕ
rewrite_refusal sheet out = or_else (sheet_refusal sheet) (cond (ltb (length out) (length sheet)) 11 0)

-- `rewrite`: the refusal beside the number of bytes written
unfoldable pub rewrite_answer : List ℕ → List ℕ → Writing
rewrite_answer sheet out = record { refusal = rewrite_refusal sheet out; written = cond (eqb (rewrite_refusal sheet out) 0) (length sheet) 0 }

-- the output after `rewrite`: "each good sheet back as the same bytes" and then the bytes as they were, or all of it as it was
unfoldable pub rewrite_leaves : List ℕ → List ℕ → List ℕ
rewrite_leaves sheet out = cond (eqb (rewrite_refusal sheet out) 0) (sheet ++ drop (length sheet) out) out

-- `judge_place`: the sheet's refusal, then 12, "the record place asked for is not below the count"
unfoldable pub place_refusal : List ℕ → ℕ → ℕ
place_refusal sheet place = or_else (sheet_refusal sheet) (cond (ltb place (count_of sheet)) 0 12)

-- where in the sheet the part handed back starts: at the record, or at the sheet's start where it is refused
unfoldable pub part_start : List ℕ → ℕ → ℕ
part_start sheet place = cond (eqb (place_refusal sheet place) 0) (start_of sheet + 9 * place) 0

-- `record_start`: the refusal of `judge_place` beside that start
unfoldable pub start_answer : List ℕ → ℕ → Start
start_answer sheet place = record { refusal = place_refusal sheet place; start = part_start sheet place }

-- its bytes: the record's nine, or none
unfoldable pub part_bytes : List ℕ → ℕ → List ℕ
part_bytes sheet place = cond (eqb (place_refusal sheet place) 0) (part_of sheet place) []

-- `record_part`: the part is pinned to its place in the lent sheet, its block and offset, and not only to its bytes
pub record Part (sheet : Bor (List ℕ)) (place : ℕ) (part : Bor (List ℕ)) : Type 0 where
  pub block : part.ref_ptr.0 ≡ sheet.ref_ptr.0
  pub offset : part.ref_ptr.1 ≡ sheet.ref_ptr.1 + part_start sheet.now place
  pub content : part.now ≡ part_bytes sheet.now place

-- `record_of`: the part of `record_part` where nothing is refused, else the refusal of `judge_place`
abbrev pub Excerpted : Bor (List ℕ) → ℕ → Result (Bor (List ℕ)) Refusal → Type 0
Excerpted sheet place (Ok part) = (place_refusal sheet.now place ≡ 0) × Part sheet place part
Excerpted sheet place (Err refusal) = (place_refusal sheet.now place ≡ 0 → ⊥) × (refusal ≡ numbered (place_refusal sheet.now place))
