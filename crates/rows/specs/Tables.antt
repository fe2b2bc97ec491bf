-- Tables from their fields, counted from 1: the count, the interval, six for each record, the round and the share; and those that a row replaces.
use Rattle.std.specs.Prelude.{ℕ, zero, suc, ◌+◌, ◌*◌, ◌/◌, ◌%◌, cond, List, [], ◌∷◌, replicate, nat_lt, slice_index, slice_set}
use Rattle.places.specs.Places.{filled_below}
use Rattle.sheet.specs.declared.Record.{Record}
use Rattle.sheet.specs.declared.Table.{Table}
use Rattle.rows.specs.Lists.{figure_of}

-- the figures of a base's only row, each in sixteen bits, and 1 for the round and the share
unfoldable pub fields_of : List ℕ → List ℕ
fields_of base = filled_below (λ field. figure_of base 0 field % 65536) 51 (replicate 53 1)

-- the place of a field by its number, or 0, where no field stands
unfoldable pub slot_of : ℕ → ℕ
slot_of field = cond (nat_lt field 53) field 0

-- the fields with as many replaced as there are pairs of figures of a row from a figure on: a field's number, and its value in sixteen bits
unfoldable pub replaced_to : List ℕ → List ℕ → ℕ → ℕ → ℕ → List ℕ
replaced_to fields list start first zero = fields
replaced_to fields list start first (suc pair) =
    slice_set (replaced_to fields list start first pair) (slot_of (figure_of list start (first + 2 * pair))) (figure_of list start (first + 2 * pair + 1) % 65536)

-- the fields with those replaced that a row gives from a figure on
unfoldable pub patched_by : List ℕ → List ℕ → ℕ → ℕ → List ℕ
patched_by fields list start first = replaced_to fields list start (first % 256) 8

-- the record whose six fields begin at a number
unfoldable pub record_of : List ℕ → ℕ → Record
record_of fields first =
    record {
      cost = slice_index fields first;
      backup = slice_index fields (first + 1);
      deadline = slice_index fields (first + 2);
      period = slice_index fields (first + 3);
      priority = slice_index fields (first + 4) % 256;
      fault_priority = slice_index fields (first + 5) % 256;
    }

-- the table of the fields
unfoldable pub table_of : List ℕ → Table
table_of fields =
    record {
      count = slice_index fields 1 % 256;
      interval = slice_index fields 2;
      round = slice_index fields 51;
      share = slice_index fields 52;
      records = record_of fields 3 ∷ record_of fields 9 ∷ record_of fields 15 ∷ record_of fields 21 ∷ record_of fields 27 ∷ record_of fields 33 ∷ record_of fields 39 ∷ record_of fields 45 ∷ [];
    }

-- the eight digits of a number, the last one last
abbrev pub choice_of : ℕ → List ℕ
choice_of number =
    number / 10000000 % 10 ∷
    number / 1000000 % 10 ∷
    number / 100000 % 10 ∷
    number / 10000 % 10 ∷
    number / 1000 % 10 ∷
    number / 100 % 10 ∷
    number / 10 % 10 ∷
    number % 10 ∷
    []

-- the table of a base with the fields that a row replaces
unfoldable pub table_by : List ℕ → List ℕ → ℕ → ℕ → Table
table_by base list start first = table_of (patched_by (fields_of base) list start first)
