-- There and back: a good sheet's table has that sheet, and the sheet of a good table holds that table.
-- Assumes nothing.
use Prim.Native.Nat.{ℕ, zero, suc, ◌+◌, ◌*◌, ◌≤◌, ◌<◌}
use mathlib.Core.Path.{◌≡◌, refl, sym, ap, ap₂, ◌∙◌, subst}
use mathlib.Core.List.{List, [], ◌∷◌, ◌++◌}
use native.Mathlib.Omega.{arith}
use lib.Dec.{lit<}
use lib.ListN.{length, get_or, take, drop, length-drop, length-replicate, take-append-drop, drop_of_length-le, get_or-eq_default}
use lib.Seq.{get_or-drop, take_all, take_at, take-take, drop_at, drop-drop, length-take-le}
use Rattle.places.specs.Places.{joined_below}
use Rattle.places.proofs.Agree.{Agree, joined-agree}
use Rattle.places.proofs.Joined.{joined-runs, run_at}
use Rattle.sheet.specs.declared.Record.{Record}
use Rattle.sheet.specs.declared.Table.{Table}
use Rattle.sheet.specs.Packing.{bits_of, regrouped}
use Rattle.sheet.specs.Layout.{header_widths, header_size, record_widths, bytes, header_of, count_of, edition_of, interval_of, new_field, round_of, share_of, start_of, size_of, part_of, record_from, fields_of, record_of, sheet_record, record_at, room, table_of, cleared, is_whole, edition_for, table_edition, table_size, record_bytes, header_fields, header_bytes, sheet_of}
use Rattle.sheet.proofs.Packing.{Fit, none, one, fit-regrouped, regrouped-back}
use Rattle.sheet.proofs.Editions.{Edition, old, new, edition-of, edition-low, whole-old, shared_new, right-share}
use Rattle.sheet.proofs.Spelled.{spelled-take, listed, Bytes, bytes_fit, fit-bytes, pairs, header-spelled, Sized, fields_fit}
use Rattle.sheet.proofs.Stores.{length-regrouped, length-record, length-header, length-sheet}
use Rattle.sheet.proofs.Parts.{part-nine}
use Rattle.sheet.proofs.Cases.{GoodHeader, GoodTable, good-at}
use Rattle.sheet.proofs.Agree.{room-agree, room_at}

-- bytes cut out of bytes are bytes
pub bytes_take : (n : ℕ) (l : List ℕ) → Bytes l → Bytes (take n l)
bytes_take zero l h k = lit< tt
bytes_take (suc n) [] h k = lit< tt
bytes_take (suc n) (b ∷ l) h zero = h 0
bytes_take (suc n) (b ∷ l) h (suc k) = bytes_take n l (λ j. h (suc j)) k

pub bytes_drop : (n : ℕ) (l : List ℕ) → Bytes l → Bytes (drop n l)
bytes_drop n l h k = rw get_or-drop (h (n + k))

-- six fields make a record that has these fields
fields-kept : (fields : List ℕ) → length fields ≡ 6 → fields_of (record_from fields) ≡ fields
unfolding fields_of record_from
fields-kept fields e = sym (listed fields 6 e)

-- nine bytes hold a record that is put as the same nine bytes
pub part-kept : (part : List ℕ) → length part ≡ 9 → Bytes part → record_bytes (record_of part) ≡ part
unfolding record_bytes record_of
part-kept part e h =
    ap (regrouped record_widths (bytes 9)) (fields-kept (regrouped (bytes 9) record_widths part) (length-regrouped _ record_widths _))
    ∙ regrouped-back record_widths (subst (λ (n : ℕ). Fit (bytes n) part) e (bytes_fit part h)) refl

-- a record within its widths is held by the nine bytes that it is put as
pub record-kept : (r : Record) → Sized r → record_of (record_bytes r) ≡ r
unfolding record_of record_bytes record_from fields_of
record-kept r z = ap record_from (regrouped-back (bytes 9) (fields_fit r z) refl)

-- an edition's widths take as many bits as its header's bytes
header-bits : {e : ℕ} → Edition e → bits_of (bytes (header_size e)) ≡ bits_of (header_widths e)
header-bits old = refl
header-bits new = refl

-- an edition's header has as many fields as widths
header-count : (e : ℕ) (s : List ℕ) → length (header_of e s) ≡ suc (suc (suc (2 * e)))
unfolding header_of
header-count e s = length-regrouped _ (header_widths e) _ ∙ ap (λ (n : ℕ). suc (suc (suc n))) (length-replicate (2 * e) 16)

-- a header's fields do not depend on what stands after it
header-cut : (d e : ℕ) (s : List ℕ) → header_size d ≤ header_size e → header_of d (take (header_size e) s) ≡ header_of d s
unfolding header_of
header-cut d e s h = ap (regrouped (bytes (header_size d)) (header_widths d)) (take-take (header_size d) (header_size e) s h)

-- the first three are the same in both editions
first_three : {e : ℕ} → Edition e → (s : List ℕ) → header_size e ≤ length s → Bytes (take (header_size e) s) → take 3 (header_of e s) ≡ header_of 0 s
first_three {e} edition s long h =
    let start = take (header_size e) s in
    let size : length start ≡ header_size e = length-take-le (header_size e) s long in
    ap (take 3) (sym (header-cut e e s (omega arith)) ∙ header-spelled edition start (omega arith) h) ∙ three edition _ _ _
    ∙ sym (header-spelled old start (omega arith) h) ∙ header-cut 0 e s (omega arith)
  where
    three : {e : ℕ} → Edition e → (a b : ℕ) (f : ℕ → ℕ) → take 3 (a ∷ b ∷ pairs (1 + 2 * e) f []) ≡ a ∷ b ∷ pairs 1 f []
    three old a b f = refl
    three new a b f = refl

-- and after them stand the round and the share in the edition that has them
after-three : {e : ℕ} → Edition e → (s : List ℕ) → drop 3 (header_of e s) ≡ take (2 * e) (get_or (header_of e s) 3 1 ∷ get_or (header_of e s) 4 1 ∷ [])
after-three old s = drop_of_length-le (header_of 0 s) {i = 3} (omega (arith, header-count 0 s))
after-three new s =
    let rest = drop 3 (header_of 1 s) in
    let two : length rest ≡ 2 = simp length-drop (omega (arith, header-count 1 s)) in
    sym (take_all 2 rest (omega arith)) ∙ sym (spelled-take 2 rest 1 (omega arith)) ∙ simp get_or-drop

-- in the old edition neither stands there, and each is 1
pub old-field : (s : List ℕ) → edition_of s ≡ 0 → (index : ℕ) → new_field s index ≡ 1
old-field s is index =
    let fields = header_of (edition_of s) s in
    let three : length fields ≡ 3 = omega (arith, header-count (edition_of s) s) in
    get_or-eq_default fields 1 {n = 3 + index} (omega arith)

pub old-fields : (s : List ℕ) → edition_of s ≡ 0 → (round_of s ≡ 1) × (share_of s ≡ 1)
unfolding round_of share_of
old-fields s is = (old-field s is 0, old-field s is 1)

-- the table of a good header is written in the sheet's own edition
pub edition-kept : (s : List ℕ) → GoodHeader s → table_edition (table_of s) ≡ edition_of s
unfolding table_of edition_for is_whole
edition-kept s good = go (edition_of s) (edition-of (edition_of s) good.edition) refl
  where
    go : (e : ℕ) → Edition e → edition_of s ≡ e → edition_for (round_of s) (share_of s) ≡ edition_of s
    go e old is = ap₂ edition_for (old-fields s is).0 (old-fields s is).1 ∙ sym is
    go e new is = shared_new (round_of s) (share_of s) (λ whole. omega (arith, right-share (round_of s) (share_of s) is good.share)) ∙ sym is

-- and so takes as many bytes as the sheet
pub size-kept : (s : List ℕ) → GoodHeader s → length s ≡ table_size (table_of s)
unfolding table_size table_of
size-kept s good = good.size ∙ ap (λ (e : ℕ). size_of e (count_of s)) (sym (edition-kept s good))

-- a good sheet's header and records are put as the sheet
module _ (s : List ℕ) (h : Bytes s) (good : GoodHeader s) where
  edition : Edition (edition_of s)
  edition = edition-of (edition_of s) good.edition

  fields-same : header_fields (table_of s) ≡ header_of (edition_of s) s
  unfolding header_fields table_of count_of edition_of interval_of round_of share_of start_of
  fields-same =
      let fields = header_of (edition_of s) s in
      let three = first_three edition s good.header (bytes_take (start_of s) s h) in
      ap (λ (e : ℕ). count_of s ∷ e ∷ interval_of s ∷ take (2 * e) (round_of s ∷ share_of s ∷ [])) (edition-kept s good)
      ∙ ap₂ ◌++◌ (sym (listed (header_of 0 s) 3 (header-count 0 s)) ∙ sym three) (sym (after-three edition s)) ∙ take-append-drop 3 fields

  header-kept : header_bytes (table_of s) ≡ take (start_of s) s
  unfolding header_bytes header_of start_of
  header-kept =
      let start = take (start_of s) s in
      let fit : Fit (bytes (header_size (edition_of s))) start = subst (λ (n : ℕ). Fit (bytes n) start) (length-take-le (start_of s) s good.header) (bytes_fit start (bytes_take (start_of s) s h)) in
      ap₂ (λ (e : ℕ) (fields : List ℕ). regrouped (header_widths e) (bytes (header_size e)) fields) (edition-kept s good) fields-same
      ∙ regrouped-back (header_widths (edition_of s)) fit (header-bits edition)

  records-kept : Agree (count_of s) (λ k. record_bytes (record_at (room (sheet_record s) (count_of s)) k)) (λ k. take 9 (drop (9 * k) (drop (start_of s) s)))
  unfolding sheet_record part_of
  records-kept k below =
      ap record_bytes (room_at (sheet_record s) (count_of s) good.count.1 k below)
      ∙ part-kept (part_of s k) (part-nine s (count_of s) k good.size below) (bytes_take 9 (drop (start_of s + 9 * k) s) (bytes_drop (start_of s + 9 * k) s h))
      ∙ ap (take 9) (sym (drop-drop (9 * k) (start_of s) s))

  pub sheet-kept : sheet_of (table_of s) ≡ s
  unfolding sheet_of table_of size_of start_of
  sheet-kept =
      ap₂ ◌++◌ header-kept (joined-agree (count_of s) records-kept ∙ joined-runs 9 (drop (start_of s) s) (count_of s) ∙ take_all (9 * count_of s) (drop (start_of s) s) (simp length-drop (omega (arith, good.size))))
      ∙ take-append-drop (start_of s) s

-- what a table's types say of it: interval, round and period are within 16 bits, and so in a good table is every other field
pub record Wide (t : Table) : Type 0 where
  pub interval : t.interval < 65536
  pub round : t.round < 65536
  pub period : (place : ℕ) → (record_at t.records place).period < 65536

-- a header's fields are within their widths
header-fit : {e : ℕ} → Edition e → (count interval round share : ℕ) → count < 16 → interval < 65536 → round < 65536 → share < 65536
    → Fit (header_widths e) (count ∷ e ∷ interval ∷ take (2 * e) (round ∷ share ∷ []))
header-fit old count interval round share few i r s = one few (one (lit< tt) (one i none))
header-fit new count interval round share few i r s = one few (one (lit< tt) (one i (one r (one s none))))

-- a good table's header and records are read back from its sheet
module _ (t : Table) (wide : Wide t) (good : GoodTable t) where
  table-edition : Edition (table_edition t)
  table-edition = edition-of (table_edition t) (edition-low t.round t.share)

  pub share-small : t.share < 65536
  share-small = go (table_edition t) table-edition refl
    where
      go : (e : ℕ) → Edition e → table_edition t ≡ e → t.share < 65536
      go e old is = omega (arith, whole-old t.round t.share is)
      go e new is = omega (arith, wide.round, right-share t.round t.share is good.share)

  fit : Fit (header_widths (table_edition t)) (header_fields t)
  unfolding header_fields
  fit = header-fit table-edition t.count t.interval t.round t.share (omega (arith, good.count.1)) wide.interval wide.round share-small

  start-put : take (header_size (table_edition t)) (sheet_of t) ≡ header_bytes t
  unfolding sheet_of
  start-put = take_at (header_bytes t) _ (header_size (table_edition t)) (length-header t)

  header_read : header_of (table_edition t) (sheet_of t) ≡ header_fields t
  unfolding header_of header_bytes
  header_read =
      ap (regrouped (bytes (header_size (table_edition t))) (header_widths (table_edition t))) start-put
      ∙ regrouped-back (bytes (header_size (table_edition t))) fit (sym (header-bits table-edition))

  three-read : header_of 0 (sheet_of t) ≡ t.count ∷ table_edition t ∷ t.interval ∷ []
  unfolding header_fields header_bytes table_size size_of
  three-read =
      let put : Bytes (header_bytes t) = fit-bytes (header_size (table_edition t)) (fit-regrouped (bytes (header_size (table_edition t))) fit (sym (header-bits table-edition))) in
      sym (first_three table-edition (sheet_of t) (omega (arith, length-sheet t)) (rw start-put put)) ∙ ap (take 3) header_read

  pub count-read : count_of (sheet_of t) ≡ t.count
  unfolding count_of
  count-read = ap (λ (l : List ℕ). get_or l 0 0) three-read

  pub edition-read : edition_of (sheet_of t) ≡ table_edition t
  unfolding edition_of
  edition-read = ap (λ (l : List ℕ). get_or l 1 0) three-read

  pub interval-read : interval_of (sheet_of t) ≡ t.interval
  unfolding interval_of
  interval-read = ap (λ (l : List ℕ). get_or l 2 0) three-read

  later-read : (k : ℕ) → get_or (header_of (edition_of (sheet_of t)) (sheet_of t)) k 1 ≡ get_or (header_fields t) k 1
  later-read k = ap (λ (e : ℕ). get_or (header_of e (sheet_of t)) k 1) edition-read ∙ ap (λ (l : List ℕ). get_or l k 1) header_read

  -- a field that the old edition has not is 1 there, as the table has it
  later-fields : (get_or (header_fields t) 3 1 ≡ t.round) × (get_or (header_fields t) 4 1 ≡ t.share)
  unfolding header_fields
  later-fields = go (table_edition t) table-edition refl
    where
      go : (e : ℕ) → Edition e → table_edition t ≡ e → (get_or (header_fields t) 3 1 ≡ t.round) × (get_or (header_fields t) 4 1 ≡ t.share)
      go e old is =
          let whole = whole-old t.round t.share is in
          rw is (sym whole.0, sym whole.1)
      go e new is = rw is (refl, refl)

  pub round-read : round_of (sheet_of t) ≡ t.round
  unfolding round_of
  round-read = later-read 3 ∙ later-fields.0

  pub share-read : share_of (sheet_of t) ≡ t.share
  unfolding share_of
  share-read = later-read 4 ∙ later-fields.1

  pub sized-at : (place : ℕ) → place < t.count → Sized (record_at t.records place)
  sized-at place below =
      let task = good-at t.count (record_at t.records) good.records place below in
      let long = wide.period place in
      let few = good.count.1 in
      record { cost = omega arith; backup = omega arith; deadline = omega arith; period = long; priority = omega arith; fault = omega arith }

  pub records-read : Agree t.count (sheet_record (sheet_of t)) (record_at t.records)
  unfolding sheet_record part_of sheet_of start_of
  records-read k below =
      let put : ℕ → List ℕ = λ place. record_bytes (record_at t.records place) in
      let start = header_size (table_edition t) in
      ap record_of
      (ap (λ (e : ℕ). take 9 (drop (header_size e + 9 * k) (sheet_of t))) edition-read
      ∙ ap (take 9) (sym (drop-drop (9 * k) start _) ∙ ap (drop (9 * k)) (drop_at (header_bytes t) (joined_below put t.count) start (length-header t)))
      ∙ run_at 9 put (λ place. length-record (record_at t.records place)) t.count k below)
      ∙ record-kept (record_at t.records k) (sized-at k below)

  pub table_kept : table_of (sheet_of t) ≡ cleared t
  unfolding table_of cleared
  table_kept i = record { count = count-read i; interval = interval-read i; round = round-read i; share = share-read i; records = same i }
    where
      same : room (sheet_record (sheet_of t)) (count_of (sheet_of t)) ≡ room (record_at t.records) t.count
      same = ap (room (sheet_record (sheet_of t))) count-read ∙ room-agree t.count records-read
