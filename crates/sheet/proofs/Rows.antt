-- The layout by example, as one table under one statement: a sheet of each edition spelled in bytes beside the table that it holds. No two fields of the second
-- edition's header or of the first record are the same number, nor the two bytes of a field, so that no two can be exchanged. Assumes nothing.
use Prim.Native.Nat.{ℕ}
use mathlib.Core.Path.{◌≡◌, refl}
use mathlib.Core.List.{List, [], ◌∷◌}
use lib.ListN.{replicate}
use Rattle.places.specs.Places.{joined_below, filled_below}
use Rattle.sheet.specs.declared.Table.{Table}
use Rattle.sheet.specs.Packing.{regrouped}
use Rattle.sheet.specs.Layout.{header_of, count_of, edition_of, interval_of, round_of, share_of, start_of, part_of, record_from, fields_of, record_of, sheet_record, record_at, room, table_of, is_whole, edition_for, record_bytes, header_fields, header_bytes, sheet_of}

-- a sheet as bytes, and the table that it holds
pub record Row : Type 0 where
  pub bytes : List ℕ
  pub table : Table

-- a table of two records, E = 1286 and the given Q and S
abbrev table_with : ℕ → ℕ → Table
table_with round share =
    record {
      count = 2;
      interval = 1286;
      round = round;
      share = share;
      records =
          record { cost = 515; backup = 1029; deadline = 1543; period = 2057; priority = 2; fault_priority = 1 }
          ∷ record { cost = 2571; backup = 3085; deadline = 3599; period = 4113; priority = 1; fault_priority = 1 }
          ∷ replicate 6 (record { cost = 0; backup = 0; deadline = 0; period = 0; priority = 0; fault_priority = 0 });
    }

-- the two records' bytes: 515 is 2 × 256 + 3, and 33 is 2 × 16 + 1
abbrev records_bytes : List ℕ
records_bytes = 2 ∷ 3 ∷ 4 ∷ 5 ∷ 6 ∷ 7 ∷ 8 ∷ 9 ∷ 33 ∷ 10 ∷ 11 ∷ 12 ∷ 13 ∷ 14 ∷ 15 ∷ 16 ∷ 17 ∷ 17 ∷ []

-- the first edition, which means Q = S = 1, and the second with Q = 300 and S = 41
abbrev pub layout_rows : List Row
layout_rows =
    record { bytes = 32 ∷ 5 ∷ 6 ∷ records_bytes; table = table_with 1 1 }
    ∷ record { bytes = 33 ∷ 5 ∷ 6 ∷ 1 ∷ 44 ∷ 0 ∷ 41 ∷ records_bytes; table = table_with 300 41 }
    ∷ []

-- each row's bytes are read as its table and its table written as its bytes
abbrev pub Holds : List Row → Type 0
Holds [] = Unit
Holds (row ∷ rows) = (table_of row.bytes ≡ row.table) × (sheet_of row.table ≡ row.bytes) × Holds rows

pub layout-holds : Holds layout_rows
unfolding regrouped header_of count_of edition_of interval_of round_of share_of start_of part_of record_from record_of sheet_record filled_below room table_of fields_of record_at is_whole edition_for record_bytes header_fields header_bytes joined_below sheet_of
layout-holds = (refl, refl, (refl, refl, tt))
