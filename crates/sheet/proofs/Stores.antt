-- Runs of stores: one run after another, and the lengths of what the layout puts. Assumes nothing.
use Prim.Native.Nat.{ℕ, suc, ◌+◌, ◌*◌, ◌%◌, ◌^◌, ◌≤◌, ◌<◌}
use mathlib.Core.Path.{◌≡◌, refl, sym, ap, ap₂, subst, ◌∙◌}
use mathlib.Core.List.{List, [], ◌∷◌, ◌++◌}
use native.Mathlib.Nat.{zero-add, add-zero, add-suc, suc-add}
use native.Mathlib.Numerals.{towards_suc}
use lib.ListN.{length, set, take, drop, length-append, length-replicate}
use lib.Seq.{sets, sets-eq}
use Rattle.places.specs.Places.{joined_below}
use Rattle.places.proofs.Joined.{length-joined}
use Rattle.sheet.specs.declared.Record.{Record}
use Rattle.sheet.specs.declared.Table.{Table}
use Rattle.sheet.specs.Packing.{bits_of, packed, unpacked, regrouped}
use Rattle.sheet.specs.Layout.{bytes, header_size, size_of, table_edition, table_size, record_at, record_bytes, header_fields, header_bytes, sheet_of}
use Rattle.sheet.proofs.Editions.{Edition, old, new}
use Rattle.sheet.proofs.Spelled.{word_bytes, Sized, record-put, header-put}

-- a run of stores where the one before it ended is one longer run
pub sets-after : (l vs ws : List ℕ) (i k : ℕ) → k ≡ i + length vs → sets (sets l i vs) k ws ≡ sets l i (vs ++ ws)
sets-after l [] ws i k e = ap (λ (n : ℕ). sets l n ws) (e ∙ add-zero i)
sets-after l (v ∷ vs) ws i k e = sets-after _ vs ws (suc i) k (e ∙ add-suc i (length vs) ∙ sym (suc-add i (length vs)))

length-unpacked : (us : List ℕ) (n : ℕ) → length (unpacked us n) ≡ length us
length-unpacked [] n = refl
length-unpacked (u ∷ us) n = ap suc (length-unpacked us (n % 2 ^ bits_of us))

-- what is regrouped has as many values as widths
pub length-regrouped : (ws us vs : List ℕ) → length (regrouped ws us vs) ≡ length us
unfolding regrouped
length-regrouped ws us vs = length-unpacked us (packed ws vs)

pub length-record : (r : Record) → length (record_bytes r) ≡ 9
unfolding record_bytes
length-record r = length-regrouped _ (bytes 9) _

pub length-records : (at : ℕ → Record) (n : ℕ) → length (joined_below (λ place. record_bytes (at place)) n) ≡ 9 * n
length-records at n = length-joined (λ place. record_bytes (at place)) 9 (λ place. length-record (at place)) n

pub length-header : (t : Table) → length (header_bytes t) ≡ header_size (table_edition t)
unfolding header_bytes
length-header t = length-regrouped _ (bytes (header_size (table_edition t))) _ ∙ length-replicate (header_size (table_edition t)) 8

pub length-sheet : (t : Table) → length (sheet_of t) ≡ table_size t
unfolding sheet_of table_size size_of
length-sheet t = length-append (header_bytes t) _ ∙ ap₂ ◌+◌ (length-header t) (length-records (record_at t.records) t.count)

-- the two bytes that a field is put as
abbrev field_bytes : ℕ → List ℕ
field_bytes x = word_bytes (x ∷ []) []

-- the stores of a record's four fields and of its priorities leave its nine bytes
pub record-stored : (out : List ℕ) (i : ℕ) (r : Record) → Sized r
    → set (sets (sets (sets (sets out i (field_bytes r.cost)) (i + 2) (field_bytes r.backup)) (i + 4) (field_bytes r.deadline)) (i + 6) (field_bytes r.period)) (i + 8) (r.priority * 16 + r.fault_priority)
    ≡ sets out i (record_bytes r)
record-stored out i r z = rw (record-put r z) (simp towards_suc)

-- a table's edition, and round and share of 16 bits
module _ (out : List ℕ) (t : Table) (interval : t.interval < 65536) (round : t.round < 65536) (share : t.share < 65536) where
  -- the header's bytes in an edition
  header-bytes : {e : ℕ} → Edition e → table_edition t ≡ e → header_bytes t ≡ (t.count * 16 + e) ∷ word_bytes (t.interval ∷ take (2 * e) (t.round ∷ t.share ∷ [])) []
  unfolding header_bytes header_fields
  header-bytes edition is = rw is (header-put edition t.count t.interval t.round t.share interval round share)

  -- the stores of the fields that both editions have leave the old edition's header
  pub old-stored : (e : ℕ) → e ≡ table_edition t → e ≡ 0 → sets (set out 0 (t.count * 16 + e)) 1 (field_bytes t.interval) ≡ sets out 0 (header_bytes t)
  old-stored e is first = rw (header-bytes old (sym is ∙ first), first) refl

  -- and with those of the round and the share the new edition's
  pub new-stored : (e : ℕ) → e ≡ table_edition t → e ≡ 1
      → sets (sets (sets (set out 0 (t.count * 16 + e)) 1 (field_bytes t.interval)) 3 (field_bytes t.round)) 5 (field_bytes t.share) ≡ sets out 0 (header_bytes t)
  new-stored e is second = rw (header-bytes new (sym is ∙ second), second) refl

-- the header's stores and then the records' leave the sheet, and the bytes after it as they were
pub sheet-stored : (t : Table) (out : List ℕ) → table_size t ≤ length out
    → sets (sets out 0 (header_bytes t)) (header_size (table_edition t)) (joined_below (λ place. record_bytes (record_at t.records place)) t.count) ≡ sheet_of t ++ drop (table_size t) out
unfolding sheet_of
sheet-stored t out long =
    let whole : 0 + length (sheet_of t) ≡ table_size t = zero-add (length (sheet_of t)) ∙ length-sheet t in
    let runs = sets-after out (header_bytes t) (joined_below (λ place. record_bytes (record_at t.records place)) t.count) 0 (header_size (table_edition t)) (sym (zero-add _ ∙ length-header t)) in
    runs ∙ sets-eq (sheet_of t) out 0 (subst (λ (n : ℕ). n ≤ length out) (sym whole) long) ∙ ap (λ (n : ℕ). sheet_of t ++ drop n out) whole
