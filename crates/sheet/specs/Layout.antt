-- The sheet's layout in both editions: header, records, the table read from a sheet, and the sheet of a table. The editions differ in the header's widths only.
use Rattle.std.specs.Prelude.{ℕ, ◌+◌, ◌*◌, Bool, cond, ◌&&◌, List, [], ◌∷◌, ◌++◌, eqb, get_or, take, drop, replicate}
use Rattle.places.specs.Places.{joined_below, filled_below}
use Rattle.sheet.specs.declared.Record.{Record}
use Rattle.sheet.specs.declared.Table.{Table}
use Rattle.sheet.specs.Packing.{regrouped}

-- Document 01: "Header, 3 bytes: task count (4 bits), reserved (4 bits, zero), fault interval E (16 bits)."
-- Document 02: "A second sheet edition has reserved bits 0001 and 16-bit Q and S after E". The number in the reserved bits is the edition's, 0 for the old one and 1 for the new.
abbrev pub header_widths : ℕ → List ℕ
header_widths edition = 4 ∷ 4 ∷ 16 ∷ replicate (2 * edition) 16

-- the header's bytes: 3 in the old edition, 7 in the new
abbrev pub header_size : ℕ → ℕ
header_size edition = 3 + 4 * edition

-- "Then one record of 9 bytes for each task: cost C, backup cost B, deadline D, period T (16 bits each), priority p (4 bits), fault priority q (4 bits)."
abbrev pub record_widths : List ℕ
record_widths = 16 ∷ 16 ∷ 16 ∷ 16 ∷ 4 ∷ 4 ∷ []

-- n bytes, as widths
abbrev pub bytes : ℕ → List ℕ
bytes n = replicate n 8

-- the header's fields in an edition: count, reserved bits, interval, and in the new one Q and S
unfoldable pub header_of : ℕ → List ℕ → List ℕ
header_of edition sheet = regrouped (bytes (header_size edition)) (header_widths edition) (take (header_size edition) sheet)

-- the count; the first three fields stand at the same bits in both editions, so they are read as the old one's
unfoldable pub count_of : List ℕ → ℕ
count_of sheet = get_or (header_of 0 sheet) 0 0

-- the reserved bits, which number the edition
unfoldable pub edition_of : List ℕ → ℕ
edition_of sheet = get_or (header_of 0 sheet) 1 0

-- the fault interval E
unfoldable pub interval_of : List ℕ → ℕ
interval_of sheet = get_or (header_of 0 sheet) 2 0

-- the fields after these, each 1 in the edition that has none: "The old edition means the whole processor, carried in the table as Q = S = 1"
abbrev pub new_field : List ℕ → ℕ → ℕ
new_field sheet index = get_or (header_of (edition_of sheet) sheet) (3 + index) 1

-- the round Q
unfoldable pub round_of : List ℕ → ℕ
round_of sheet = new_field sheet 0

-- the share S
unfoldable pub share_of : List ℕ → ℕ
share_of sheet = new_field sheet 1

-- where a sheet's records start, after its header
unfoldable pub start_of : List ℕ → ℕ
start_of sheet = header_size (edition_of sheet)

-- the bytes of a sheet of n tasks in an edition: 3 + 9n, or 7 + 9n
unfoldable pub size_of : ℕ → ℕ → ℕ
size_of edition n = header_size edition + 9 * n

-- the bytes that a sheet has by its own count and edition, up to the end of its last record
abbrev pub said_size : List ℕ → ℕ
said_size sheet = size_of (edition_of sheet) (count_of sheet)

-- the nine bytes of the record at a place k, from 3 + 9k to 12 + 9k, or from 7 + 9k to 16 + 9k
unfoldable pub part_of : List ℕ → ℕ → List ℕ
part_of sheet place = take 9 (drop (start_of sheet + 9 * place) sheet)

-- a record from its six fields, in their order
unfoldable pub record_from : List ℕ → Record
record_from fields =
    record {
      cost = get_or fields 0 0;
      backup = get_or fields 1 0;
      deadline = get_or fields 2 0;
      period = get_or fields 3 0;
      priority = get_or fields 4 0;
      fault_priority = get_or fields 5 0;
    }

-- a record's six fields, in their order
unfoldable pub fields_of : Record → List ℕ
fields_of r = r.cost ∷ r.backup ∷ r.deadline ∷ r.period ∷ r.priority ∷ r.fault_priority ∷ []

-- the record that nine bytes hold
unfoldable pub record_of : List ℕ → Record
record_of part = record_from (regrouped (bytes 9) record_widths part)

-- the record of a sheet at a place
unfoldable pub sheet_record : List ℕ → ℕ → Record
sheet_record sheet place = record_of (part_of sheet place)

-- a record of zeros
abbrev pub no_record : Record
no_record = record { cost = 0; backup = 0; deadline = 0; period = 0; priority = 0; fault_priority = 0 }

-- the record at a place of a table's records
unfoldable pub record_at : List Record → ℕ → Record
record_at records place = get_or records place no_record

-- the records at the places below the count in room for eight; "the records past the count are zero"
unfoldable pub room : (ℕ → Record) → ℕ → List Record
room at count = filled_below at count (replicate 8 no_record)

-- the table read from a sheet: "a count, the interval and room for eight records", with Q and S beside the interval
unfoldable pub table_of : List ℕ → Table
table_of sheet =
    record {
      count = count_of sheet;
      interval = interval_of sheet;
      round = round_of sheet;
      share = share_of sheet;
      records = room (sheet_record sheet) (count_of sheet);
    }

-- a table with its records past the count zero
unfoldable pub cleared : Table → Table
cleared t = record { count = t.count; interval = t.interval; round = t.round; share = t.share; records = room (record_at t.records) t.count }

-- a table of zeros
abbrev pub no_table : Table
no_table = record { count = 0; interval = 0; round = 0; share = 0; records = replicate 8 no_record }

-- "the whole processor, carried in the table as Q = S = 1"
unfoldable pub is_whole : ℕ → ℕ → Bool
is_whole round share = eqb round 1 && eqb share 1

-- the edition that a round and a share are written in: the old one exactly for the whole processor
unfoldable pub edition_for : ℕ → ℕ → ℕ
edition_for round share = cond (is_whole round share) 0 1

-- the same of a table
abbrev pub table_edition : Table → ℕ
table_edition t = edition_for t.round t.share

-- the bytes of what is written for a table
unfoldable pub table_size : Table → ℕ
table_size t = size_of (table_edition t) t.count

-- a record's nine bytes
unfoldable pub record_bytes : Record → List ℕ
record_bytes r = regrouped record_widths (bytes 9) (fields_of r)

-- the fields of a table's header, in their order: as many as its edition has
unfoldable pub header_fields : Table → List ℕ
header_fields t = t.count ∷ table_edition t ∷ t.interval ∷ take (2 * table_edition t) (t.round ∷ t.share ∷ [])

-- the bytes of a table's header
unfoldable pub header_bytes : Table → List ℕ
header_bytes t = regrouped (header_widths (table_edition t)) (bytes (header_size (table_edition t))) (header_fields t)

-- the sheet of a table
unfoldable pub sheet_of : Table → List ℕ
sheet_of t = header_bytes t ++ joined_below (λ place. record_bytes (record_at t.records place)) t.count
