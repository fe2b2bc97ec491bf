-- A sheet cut after its last record, and mended: the header is judged alike, and the table of the one mended is the table of the other. Assumes nothing.
use Prim.Native.Nat.{ℕ, ◌≤◌, ◌<◌}
use mathlib.Core.Path.{◌≡◌, refl, sym, ap, subst, ◌∙◌}
use mathlib.Core.Bool.{Bool, true, false, cond}
use mathlib.Core.List.{List}
use native.Mathlib.Nat.{le_of_eq}
use native.Mathlib.Decide.{ℕ_discrete, dec_lt}
use native.Mathlib.Omega.{arith}
use lib.Dec.{ltb}
use lib.ListN.{length, get_or, take, replicate, get_or-replicate}
use lib.Seq.{take_all, ext_get_or}
use Rattle.places.specs.Places.{filled_below}
use Rattle.places.proofs.Tells.{Tells, holds, fails}
use Rattle.places.proofs.Filled.{length-filled, filled_at, filled-past}
use Rattle.places.proofs.Refusals.{next-of}
use Rattle.sheet.specs.declared.Record.{Record}
use Rattle.sheet.specs.Layout.{count_of, interval_of, round_of, share_of, start_of, said_size, sheet_record, no_record, record_at, room, table_of}
use Rattle.sheet.specs.Rules.{outside, wrong_share, size_refusal, header_refusal, sheet_refusal, table_refusal}
use Rattle.sheet.proofs.Cases.{GoodHeader, good-header, table-records, within, outside-within, good-size, size_low, header-size, header-1-again, header-4}
use Rattle.sheet.proofs.Spelled.{Bytes, Sized}
use Rattle.sheet.proofs.Agree.{records-agree, room_at}
use Rattle.sheet.proofs.Return.{edition-kept}
use Rattle.mend.specs.Mended.{mended_deadline, mended_fault, mended_record, sheet_with, mended, is_complete}
use Rattle.mend.specs.Steps.{kept_of, mended_table}
use Rattle.mend.proofs.Complete.{Complete, complete-tells}
use Rattle.mend.proofs.Rebuilt.{start-alike, header-alike, sheet-sized, cut-with, with-start, with-length, with-table, with_byte}

-- a record mended stays within its widths
pub mended-sized : (r : Record) → Sized r → Sized (mended_record r)
unfolding mended_record mended_deadline mended_fault
mended-sized r z = record { cost = z.cost; backup = z.backup; deadline = either (ltb r.period r.deadline) z.period z.deadline; period = z.period; priority = z.priority; fault = either (outside r.fault_priority r.priority) z.priority z.fault }
  where
    either : (b : Bool) {x y n : ℕ} → x < n → y < n → cond b x y < n
    either true h k = h
    either false h k = k

-- the records of a sheet, mended
abbrev pub mended_at : List ℕ → ℕ → Record
mended_at s k = mended_record (sheet_record s k)

-- the sheet without the bytes after its last record
abbrev pub cut : List ℕ → List ℕ
cut s = take (kept_of s) s

-- a complete sheet is cut to its records, and mended record by record
module _ (s : List ℕ) (whole : Complete s) where
  is-complete : is_complete s ≡ true
  is-complete = told (complete-tells s)
    where
      told : {b : Bool} → Tells (Complete s) b → b ≡ true
      told (holds h) = refl
      told (fails n) = absurd (n whole)

  pub kept-said : kept_of s ≡ said_size s
  unfolding kept_of
  kept-said = simp is-complete

  pub mended-with : mended s ≡ sheet_with s (mended_at s)
  unfolding mended
  mended-with = simp is-complete

  pub mended-length : length (mended s) ≡ said_size s
  mended-length = ap length mended-with ∙ with-length s whole (mended_at s)

  module _ (byte : Bytes s) where
    pub at-sized : (k : ℕ) → k < count_of s → Sized (mended_at s k)
    at-sized k below = mended-sized (sheet_record s k) (sheet-sized s whole byte k below)

    cut-is : cut s ≡ sheet_with s (sheet_record s)
    cut-is = ap (λ (n : ℕ). take n s) kept-said ∙ cut-with s whole byte

-- any other is left as it is
module _ (s : List ℕ) (short : Complete s → ⊥) where
  not-complete : is_complete s ≡ false
  not-complete = told (complete-tells s)
    where
      told : {b : Bool} → Tells (Complete s) b → b ≡ false
      told (holds h) = absurd (short h)
      told (fails n) = refl

  cut-same : cut s ≡ s
  unfolding kept_of
  cut-same = simp not-complete (take_all (length s) s (omega arith))

  pub mended-same : mended s ≡ s
  unfolding mended
  mended-same = simp not-complete

-- and refused with 1, 2, 3 or 4
pub incomplete-low : (s : List ℕ) → (Complete s → ⊥) → (1 ≤ header_refusal s) × (header_refusal s ≤ 4)
incomplete-low s short = said (ℕ_discrete (size_refusal s) 0)
  where
    size : size_refusal s ≡ 0 → start_of s ≤ length s → Dec (length s ≡ said_size s) → (1 ≤ header_refusal s) × (header_refusal s ≤ 4)
    size z h (yes e) =
        let known = good-size s z in
        absurd (short (record { long = known.long; known = (within (count_of s) 8 known.count, known.edition); fits = le_of_eq (sym e) }))
    size z h (no e) = omega (arith, header-4 s z h e)

    start : size_refusal s ≡ 0 → Dec (length s < start_of s) → (1 ≤ header_refusal s) × (header_refusal s ≤ 4)
    start z (yes h) = omega (arith, header-1-again s z h)
    start z (no h) = size z (omega arith) (ℕ_discrete (length s) (said_size s))

    said : Dec (size_refusal s ≡ 0) → (1 ≤ header_refusal s) × (header_refusal s ≤ 4)
    said (yes z) = start z (dec_lt (length s) (start_of s))
    said (no z) = omega (arith, header-size s z, size_low s)

-- a claim about a sheet that is complete, and about one that is not
pub by_cases : {P : Type 0} (s : List ℕ) → (Complete s → P) → ((Complete s → ⊥) → P) → P
by_cases {P} s if-complete if-not = go (complete-tells s)
  where
    go : {b : Bool} → Tells (Complete s) b → P
    go (holds h) = if-complete h
    go (fails n) = if-not n

module _ (s : List ℕ) (byte : Bytes s) where
  -- the header is judged alike before and after the records are mended
  pub header-same : header_refusal (cut s) ≡ header_refusal (mended s)
  header-same = by_cases s together (λ short. ap header_refusal (cut-same s short ∙ sym (mended-same s short)))
    where
      alike : Complete s → header_refusal (sheet_with s (sheet_record s)) ≡ header_refusal (sheet_with s (mended_at s))
      alike whole =
          header-alike (sheet_with s (sheet_record s)) (sheet_with s (mended_at s)) (rw (start-alike (sheet_with s (mended_at s)) s (with-start s whole (mended_at s))) (with-start s whole (sheet_record s) ∙ sym (with-start s whole (mended_at s)))) (with-length s whole (sheet_record s) ∙ sym (with-length s whole (mended_at s)))

      together : Complete s → header_refusal (cut s) ≡ header_refusal (mended s)
      together whole = ap header_refusal (cut-is s whole byte) ∙ alike whole ∙ ap header_refusal (sym (mended-with s whole))

  pub mended-byte : Bytes (mended s)
  mended-byte = by_cases s (λ whole. subst Bytes (sym (mended-with s whole)) (with_byte s whole (mended_at s) (at-sized s whole byte) byte)) (λ short. subst Bytes (sym (mended-same s short)) byte)

-- a header that is not refused is that of a complete sheet
pub good-complete : (s : List ℕ) → header_refusal (cut s) ≡ 0 → Complete s
good-complete s good = by_cases s (λ whole. whole) (λ short. of-good (good-header s (ap header_refusal (sym (cut-same s short)) ∙ good)))
  where
    of-good : GoodHeader s → Complete s
    of-good h = record { long = h.long; known = (h.count, h.edition); fits = le_of_eq (sym h.size) }

-- a record of zeros stays one
zeros-mended : mended_record no_record ≡ no_record
unfolding mended_record mended_deadline mended_fault outside
zeros-mended = refl

-- the room for eight with all its records mended is the room of the records mended
module _ (at : ℕ → Record) (n : ℕ) (few : n ≤ 8) where
  room-past : (k : ℕ) → k < 8 → n ≤ k → record_at (room at n) k ≡ no_record
  unfolding record_at room
  room-past k below high = filled-past at n (replicate 8 no_record) no_record k high ∙ get_or-replicate 8 k no_record no_record below

room-mended : (at : ℕ → Record) (n : ℕ) → n ≤ 8 → filled_below (λ k. mended_record (record_at (room at n) k)) 8 (room at n) ≡ room (λ k. mended_record (at k)) n
unfolding room record_at
room-mended at n few =
    ext_get_or no_record _ _ (length-filled _ 8 (room at n) ∙ length-filled at n (replicate 8 no_record) ∙ sym (length-filled (λ k. mended_record (at k)) n (replicate 8 no_record))) each
  where
    eight : length (filled_below (λ k. mended_record (record_at (room at n) k)) 8 (room at n)) ≡ 8
    eight = length-filled _ 8 (room at n) ∙ length-filled at n (replicate 8 no_record)

    here : (k : ℕ) → k < 8 → Dec (k < n) → mended_record (record_at (room at n) k) ≡ record_at (room (λ j. mended_record (at j)) n) k
    here k below (yes inside) = ap mended_record (room_at at n few k inside) ∙ sym (room_at (λ j. mended_record (at j)) n few k inside)
    here k below (no past) = ap mended_record (room-past at n few k below (omega arith)) ∙ zeros-mended ∙ sym (room-past (λ j. mended_record (at j)) n few k below (omega arith))

    each : (k : ℕ) → k < length (filled_below (λ j. mended_record (record_at (room at n) j)) 8 (room at n)) → get_or (filled_below (λ j. mended_record (record_at (room at n) j)) 8 (room at n)) k no_record ≡ record_at (room (λ j. mended_record (at j)) n) k
    each k h =
        let below : k < 8 = omega (arith, eight) in
        filled_at (λ j. mended_record (record_at (room at n) j)) 8 (room at n) no_record (le_of_eq (sym (length-filled at n (replicate 8 no_record)))) k below ∙ here k below (dec_lt k n)

-- a sheet whose header is good
module _ (s : List ℕ) (byte : Bytes s) (good : header_refusal (cut s) ≡ 0) where
  whole : Complete s
  whole = good-complete s good

  pub mended-header : GoodHeader (mended s)
  mended-header = good-header (mended s) (sym (header-same s byte) ∙ good)

  pub cut-table : table_of (cut s) ≡ record { count = count_of s; interval = interval_of s; round = round_of s; share = share_of s; records = room (sheet_record s) (count_of s) }
  cut-table = ap table_of (cut-is s whole byte) ∙ with-table s whole (sheet_record s) (sheet-sized s whole byte)

  -- its table mended is the mended sheet's
  pub table-mended : mended_table (table_of (cut s)) ≡ table_of (mended s)
  unfolding mended_table
  table-mended =
      ap mended_table cut-table
      ∙ ap (λ (l : List Record). record { count = count_of s; interval = interval_of s; round = round_of s; share = share_of s; records = l }) (room-mended (sheet_record s) (count_of s) whole.known.0.1)
      ∙ sym (with-table s whole (mended_at s) (at-sized s whole byte)) ∙ ap table_of (sym (mended-with s whole))

-- the table of a good header is refused as the sheet is
pub table-judged : (s : List ℕ) → header_refusal s ≡ 0 → table_refusal (table_of s) ≡ sheet_refusal s
unfolding table_of sheet_refusal
table-judged s good =
    let header = good-header s good in
    sym (table-records (table_of s) (outside-within (count_of s) 8 header.count) header.interval (ap (λ (e : ℕ). wrong_share e (round_of s) (share_of s)) (edition-kept s header) ∙ header.share))
    ∙ records-agree (count_of s) (room_at (sheet_record s) (count_of s) header.count.1) ∙ sym (next-of _ good)
