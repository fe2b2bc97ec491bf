-- The table of a good sheet: its numbers have the sheet's widths, and it has no records past its count. Assumes nothing.
use Prim.Native.Nat.{ℕ, zero, suc, ◌+◌, ◌*◌, ◌≤◌, ◌<◌}
use mathlib.Core.Path.{◌≡◌, refl, ap, ◌∙◌, subst}
use mathlib.Core.List.{List}
use native.Mathlib.Decide.{dec_lt}
use native.Mathlib.Omega.{arith}
use lib.ListN.{length, get_or, take, drop, replicate}
use lib.Seq.{length-take-le}
use Rattle.places.proofs.Filled.{filled-past}
use Rattle.sheet.specs.declared.Record.{Record}
use Rattle.sheet.specs.Layout.{header_widths, header_size, record_widths, bytes, header_of, count_of, edition_of, interval_of, round_of, share_of, start_of, part_of, record_from, record_of, sheet_record, no_record, record_at, room, table_of, cleared}
use Rattle.sheet.specs.Packing.{bits_of}
use Rattle.sheet.proofs.Packing.{Fit, none, one, fit-regrouped}
use Rattle.sheet.proofs.Editions.{Edition, old, new, edition-of}
use Rattle.sheet.proofs.Spelled.{Bytes, bytes_fit, Sized}
use Rattle.sheet.proofs.Parts.{part-nine}
use Rattle.sheet.proofs.Cases.{GoodHeader}
use Rattle.sheet.proofs.Agree.{room-agree, room_at}
use Rattle.sheet.proofs.Return.{Wide, bytes_take, bytes_drop, old-fields}

-- values in a record's widths make a record of these widths
sized-from : {vs : List ℕ} → Fit record_widths vs → Sized (record_from vs)
unfolding record_from
sized-from (one c (one b (one d (one t (one p (one q none)))))) = record { cost = c; backup = b; deadline = d; period = t; priority = p; fault = q }

-- the record that nine bytes hold has its widths
part-sized : (part : List ℕ) → length part ≡ 9 → Bytes part → Sized (record_of part)
unfolding record_of
part-sized part e h = sized-from (fit-regrouped record_widths (subst (λ (n : ℕ). Fit (bytes n) part) e (bytes_fit part h)) refl)

-- the fields of a header have theirs
old-narrow : {vs : List ℕ} → Fit (header_widths 0) vs → get_or vs 2 0 < 65536
old-narrow (one a (one b (one c none))) = c

new-narrow : {vs : List ℕ} → Fit (header_widths 1) vs → get_or vs 3 1 < 65536
new-narrow (one a (one b (one c (one d (one e none))))) = d

header-fits : {e : ℕ} → Edition e → (s : List ℕ) → header_size e ≤ length s → Bytes s → Fit (header_widths e) (header_of e s)
unfolding header_of
header-fits {e} edition s long h =
    let start = take (header_size e) s in
    fit-regrouped (header_widths e) (subst (λ (n : ℕ). Fit (bytes n) start) (length-take-le (header_size e) s long) (bytes_fit start (bytes_take (header_size e) s h))) (bits edition)
  where
    bits : {e : ℕ} → Edition e → bits_of (bytes (header_size e)) ≡ bits_of (header_widths e)
    bits old = refl
    bits new = refl

-- a list of one value holds it everywhere, where what is not there is the same
all_same : {A : Type 0} (a : A) (n k : ℕ) → get_or (replicate n a) k a ≡ a
all_same a zero k = refl
all_same a (suc n) zero = refl
all_same a (suc n) (suc k) = all_same a n k

-- past the count there are zeros
none-past : (at : ℕ → Record) (n place : ℕ) → n ≤ place → record_at (room at n) place ≡ no_record
unfolding record_at room
none-past at n place past = filled-past at n (replicate 8 no_record) no_record place past ∙ all_same no_record 8 place

-- a good sheet's table
module _ (s : List ℕ) (h : Bytes s) (good : GoodHeader s) where
  round-narrow : round_of s < 65536
  unfolding round_of start_of
  round-narrow = go (edition_of s) (edition-of (edition_of s) good.edition) refl
    where
      go : (e : ℕ) → Edition e → edition_of s ≡ e → round_of s < 65536
      go e old is = rw (old-fields s is).0 (omega arith)
      go e new is = rw is (new-narrow (header-fits new s (omega (arith, good.header)) h))

  record-narrow : (place : ℕ) → place < count_of s → (sheet_record s place).period < 65536
  unfolding sheet_record part_of
  record-narrow place below = (part-sized (part_of s place) (part-nine s (count_of s) place good.size below) (bytes_take 9 (drop (start_of s + 9 * place) s) (bytes_drop (start_of s + 9 * place) s h))).period

  period-narrow : (place : ℕ) → (record_at (room (sheet_record s) (count_of s)) place).period < 65536
  period-narrow place = go (dec_lt place (count_of s))
    where
      go : Dec (place < count_of s) → (record_at (room (sheet_record s) (count_of s)) place).period < 65536
      go (yes below) = rw (room_at (sheet_record s) (count_of s) good.count.1 place below) (record-narrow place below)
      go (no past) = rw (none-past (sheet_record s) (count_of s) place (omega arith)) (omega arith)

  pub sheet-wide : Wide (table_of s)
  unfolding table_of interval_of
  sheet-wide = record { interval = old-narrow (header-fits old s good.long h); round = round-narrow; period = period-narrow }

  -- it has no records past its count
  pub sheet-cleared : cleared (table_of s) ≡ table_of s
  unfolding cleared table_of
  sheet-cleared =
      ap (λ (records : List Record). record { count = count_of s; interval = interval_of s; round = round_of s; share = share_of s; records = records })
      (room-agree (count_of s) (room_at (sheet_record s) (count_of s) good.count.1))
