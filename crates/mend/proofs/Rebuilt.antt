-- A complete sheet's header with other records after it: its length, its header's fields, its records, and the table that it holds. Assumes nothing.
use Prim.Native.Nat.{ℕ, zero, suc, ◌+◌, ◌*◌, ◌≤◌, ◌<◌}
use mathlib.Core.Path.{◌≡◌, refl, sym, ap, ap₂, ◌∙◌}
use mathlib.Core.List.{List, [], ◌∷◌, ◌++◌}
use native.Mathlib.Omega.{arith}
use lib.Dec.{lit<}
use lib.ListN.{length, get_or, take, drop, length-append, length-drop}
use lib.Seq.{take_at, drop_at, drop-drop, take-take, take-add, length-take-le}
use Rattle.places.specs.Places.{joined_below}
use Rattle.places.proofs.Agree.{Agree, joined-agree}
use Rattle.places.proofs.Joined.{joined-runs, run_at}
use Rattle.sheet.specs.declared.Record.{Record}
use Rattle.sheet.specs.Packing.{regrouped}
use Rattle.sheet.specs.Layout.{header_widths, header_size, bytes, header_of, count_of, edition_of, interval_of, round_of, share_of, start_of, size_of, said_size, part_of, record_of, sheet_record, room, table_of, record_bytes}
use Rattle.sheet.specs.Rules.{header_refusal}
use Rattle.sheet.proofs.Packing.{fit-regrouped}
use Rattle.sheet.proofs.Spelled.{Bytes, fit-bytes, record-spelled, Sized, fields_fit}
use Rattle.sheet.proofs.Stores.{length-record, length-records}
use Rattle.sheet.proofs.Agree.{room-agree}
use Rattle.sheet.proofs.Return.{bytes_take, bytes_drop, part-kept, record-kept}
use Rattle.mend.specs.Mended.{sheet_with}
use Rattle.mend.proofs.Complete.{Complete}

-- bytes after bytes are bytes
bytes-append : (x y : List ℕ) → Bytes x → Bytes y → Bytes (x ++ y)
bytes-append [] y bx by k = by k
bytes-append (b ∷ x) y bx by zero = bx 0
bytes-append (b ∷ x) y bx by (suc k) = bytes-append x y (λ j. bx (suc j)) by k

bytes-joined : (f : ℕ → List ℕ) (n : ℕ) → ((k : ℕ) → k < n → Bytes (f k)) → Bytes (joined_below f n)
unfolding joined_below
bytes-joined f zero each = λ k. lit< tt
bytes-joined f (suc n) each = bytes-append (joined_below f n) (f n) (bytes-joined f n (λ k below. each k (omega arith))) (each n (omega arith))

-- a record within its widths is put as bytes
put_byte : (r : Record) → Sized r → Bytes (record_bytes r)
unfolding record_bytes
put_byte r sized = fit-bytes 9 (fit-regrouped (bytes 9) (fields_fit r sized) refl)

-- two sheets with the same header
module _ (x y : List ℕ) (same : take (start_of y) x ≡ take (start_of y) y) where
  fields-alike : (d : ℕ) → header_size d ≤ start_of y → header_of d x ≡ header_of d y
  unfolding header_of
  fields-alike d h = ap (regrouped (bytes (header_size d)) (header_widths d)) (sym (take-take (header_size d) (start_of y) x h) ∙ ap (take (header_size d)) same ∙ take-take (header_size d) (start_of y) y h)

  three-alike : header_of 0 x ≡ header_of 0 y
  unfolding start_of
  three-alike = fields-alike 0 (omega arith)

  pub count-alike : count_of x ≡ count_of y
  unfolding count_of
  count-alike = ap (λ (l : List ℕ). get_or l 0 0) three-alike

  pub edition-alike : edition_of x ≡ edition_of y
  unfolding edition_of
  edition-alike = ap (λ (l : List ℕ). get_or l 1 0) three-alike

  pub interval-alike : interval_of x ≡ interval_of y
  unfolding interval_of
  interval-alike = ap (λ (l : List ℕ). get_or l 2 0) three-alike

  all_alike : header_of (edition_of x) x ≡ header_of (edition_of y) y
  unfolding start_of
  all_alike = ap (λ (e : ℕ). header_of e x) edition-alike ∙ fields-alike (edition_of y) (omega arith)

  pub round-alike : round_of x ≡ round_of y
  unfolding round_of
  round-alike = ap (λ (l : List ℕ). get_or l 3 1) all_alike

  pub share-alike : share_of x ≡ share_of y
  unfolding share_of
  share-alike = ap (λ (l : List ℕ). get_or l 4 1) all_alike

  pub start-alike : start_of x ≡ start_of y
  unfolding start_of
  start-alike = ap header_size edition-alike

  -- and of the same length
  pub header-alike : length x ≡ length y → header_refusal x ≡ header_refusal y
  unfolding header_refusal
  header-alike size = simp (size, count-alike, edition-alike, interval-alike, round-alike, share-alike, start-alike)

-- the nine bytes of a record below the count
module _ (s : List ℕ) (whole : Complete s) (byte : Bytes s) (k : ℕ) (below : k < count_of s) where
  whole_part : length (part_of s k) ≡ 9
  unfolding part_of start_of size_of
  whole_part = length-take-le 9 (drop (start_of s + 9 * k) s) (simp length-drop (omega (arith, whole.fits)))

  part-byte : Bytes (part_of s k)
  unfolding part_of
  part-byte = bytes_take 9 (drop (start_of s + 9 * k) s) (bytes_drop (start_of s + 9 * k) s byte)

  -- hold a record within its widths
  pub sheet-sized : Sized (sheet_record s k)
  unfolding sheet_record
  sheet-sized =
      rw (record-spelled (part_of s k) whole_part part-byte)
      (record {
        cost = omega (arith, part-byte 0, part-byte 1);
        backup = omega (arith, part-byte 2, part-byte 3);
        deadline = omega (arith, part-byte 4, part-byte 5);
        period = omega (arith, part-byte 6, part-byte 7);
        priority = omega (arith, part-byte 8);
        fault = omega (arith, part-byte 8);
      })

  -- that is put as the same nine bytes
  pub part-put : record_bytes (sheet_record s k) ≡ part_of s k
  unfolding sheet_record
  part-put = part-kept (part_of s k) whole_part part-byte

module _ (s : List ℕ) (whole : Complete s) where
  pub start-size : length (take (start_of s) s) ≡ start_of s
  unfolding start_of size_of
  start-size = length-take-le (start_of s) s (omega (arith, whole.fits))

  -- the bytes up to the last record's end are the header and the records
  pub cut-with : Bytes s → take (said_size s) s ≡ sheet_with s (sheet_record s)
  unfolding sheet_with size_of start_of part_of
  cut-with byte =
      take-add (start_of s) (9 * count_of s) s
      ∙ ap (λ (l : List ℕ). take (start_of s) s ++ l)
      (sym (joined-runs 9 (drop (start_of s) s) (count_of s)) ∙ joined-agree (count_of s) (λ k below. ap (take 9) (drop-drop (9 * k) (start_of s) s) ∙ sym (part-put s whole byte k below)))

  module _ (at : ℕ → Record) where
    pub with-start : take (start_of s) (sheet_with s at) ≡ take (start_of s) s
    unfolding sheet_with
    with-start = take_at (take (start_of s) s) _ (start_of s) start-size

    pub with-length : length (sheet_with s at) ≡ said_size s
    unfolding sheet_with size_of start_of
    with-length = length-append (take (start_of s) s) _ ∙ ap₂ ◌+◌ start-size (length-records at (count_of s))

    with_rest : drop (start_of s) (sheet_with s at) ≡ joined_below (λ place. record_bytes (at place)) (count_of s)
    unfolding sheet_with
    with_rest = drop_at (take (start_of s) s) _ (start_of s) start-size

    -- each record's own nine bytes stand at its place
    pub with_part : (k : ℕ) → k < count_of s → part_of (sheet_with s at) k ≡ record_bytes (at k)
    unfolding part_of
    with_part k below =
        ap (λ (start : ℕ). take 9 (drop (start + 9 * k) (sheet_with s at))) (start-alike (sheet_with s at) s with-start)
        ∙ ap (take 9) (sym (drop-drop (9 * k) (start_of s) (sheet_with s at)) ∙ ap (drop (9 * k)) with_rest)
        ∙ run_at 9 (λ place. record_bytes (at place)) (λ place. length-record (at place)) (count_of s) k below

    module _ (sized : (k : ℕ) → k < count_of s → Sized (at k)) where
      -- and hold it
      pub with-records : Agree (count_of s) (sheet_record (sheet_with s at)) at
      unfolding sheet_record
      with-records k below = ap record_of (with_part k below) ∙ record-kept (at k) (sized k below)

      pub with-table : table_of (sheet_with s at) ≡ record { count = count_of s; interval = interval_of s; round = round_of s; share = share_of s; records = room at (count_of s) }
      unfolding table_of
      with-table i =
          record {
            count = count-alike (sheet_with s at) s with-start i;
            interval = interval-alike (sheet_with s at) s with-start i;
            round = round-alike (sheet_with s at) s with-start i;
            share = share-alike (sheet_with s at) s with-start i;
            records = (ap (room (sheet_record (sheet_with s at))) (count-alike (sheet_with s at) s with-start) ∙ room-agree (count_of s) with-records) i;
          }

      -- every one of its bytes is one
      pub with_byte : Bytes s → Bytes (sheet_with s at)
      unfolding sheet_with
      with_byte byte = bytes-append (take (start_of s) s) _ (bytes_take (start_of s) s byte) (bytes-joined (λ place. record_bytes (at place)) (count_of s) (λ k below. put_byte (at k) (sized k below)))
