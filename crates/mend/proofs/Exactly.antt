-- What stands in the list of changes: exactly the differences between the sheet and the mended sheet, in rising order. Assumes nothing.
use Prim.Native.Nat.{ℕ, zero, suc, ◌+◌, ◌*◌, ◌-◌, ◌≤◌, ◌<◌}
use mathlib.Core.Path.{◌≡◌, refl, sym, ap, subst, ◌∙◌}
use mathlib.Core.Bool.{Bool, true, false, cond}
use mathlib.Core.List.Memᴰ
use mathlib.Core.List.{List, [], ◌∷◌, ◌++◌, Memᴰ}
use mathlib.Core.Logic.{◌⊎◌, ◌↔◌, inl, inr, ⊎_elim}
use native.Mathlib.Omega.{arith}
use borrow.Author.Tests.{ne_eqb, eqb-false}
use lib.Dec.{eqb}
use Rattle.places.specs.Places.{joined_below}
use Rattle.places.proofs.Joined.{joined-some, some-joined}
use Rattle.sheet.specs.declared.Record.{Record}
use Rattle.sheet.specs.Layout.{count_of, sheet_record}
use Rattle.sheet.proofs.Spelled.{Bytes}
use Rattle.mend.specs.declared.Field.{Field}
use Rattle.mend.specs.declared.Field.TheVariants.{Length, Deadline, FaultPriority}
use Rattle.mend.specs.declared.Change.{Change}
use Rattle.mend.specs.Mended.{mended_record, mended}
use Rattle.mend.specs.Changes.{field_number, listed, length_change, deadline_change, fault_change, record_changes, changes_of}
use Rattle.mend.specs.Applied.{value_at, Place, Difference, rank, Rises}
use Rattle.mend.proofs.Complete.{Complete}
use Rattle.mend.proofs.Rebuilt.{with-records}
use Rattle.mend.proofs.Cut.{mended_at, mended-with, mended-length, at-sized}

-- what a change listed is
listed-is : (c d : Change) → Memᴰ c (listed d) → (c ≡ d) × (d.old ≡ d.new → ⊥)
unfolding listed
listed-is c d = go (eqb d.old d.new) refl
  where
    go : (b : Bool) → eqb d.old d.new ≡ b → Memᴰ c (cond b [] (d ∷ [])) → (c ≡ d) × (d.old ≡ d.new → ⊥)
    go true e m = absurd (Memᴰ.not-nil m)
    go false e m = (Memᴰ.eq_of_singleton m, eqb-false d.old d.new e)

is-listed : (c d : Change) → c ≡ d → (d.old ≡ d.new → ⊥) → Memᴰ c (listed d)
unfolding listed
is-listed c d is differs = rw (ne_eqb d.old d.new differs) (Memᴰ.head is)

-- the list of a complete sheet
module _ (s : List ℕ) (whole : Complete s) (byte : Bytes s) where
  -- the values that a record has after mending
  pub after : (k : ℕ) → k < count_of s → sheet_record (mended s) k ≡ mended_at s k
  after k below = ap (λ (t : List ℕ). sheet_record t k) (mended-with s whole) ∙ with-records s whole (mended_at s) (at-sized s whole byte) k below

  -- a change of one of the three kinds, whose values differ, is a difference
  length-difference : ((length_change s).old ≡ (length_change s).new → ⊥) → Difference s (mended s) (length_change s)
  unfolding length_change value_at Place
  length-difference differs = record { place = refl; old = refl; new = sym (mended-length s whole); differs = differs }

  module _ (k : ℕ) (below : k < count_of s) where
    back : k + 1 - 1 ≡ k
    back = omega arith

    deadline-difference : ((deadline_change (k + 1) (sheet_record s k)).old ≡ (deadline_change (k + 1) (sheet_record s k)).new → ⊥) → Difference s (mended s) (deadline_change (k + 1) (sheet_record s k))
    unfolding deadline_change value_at Place mended_record
    deadline-difference differs =
        record {
          place = omega arith;
          old = ap (λ (j : ℕ). (sheet_record s j).deadline) (sym back);
          new = sym (ap (λ (r : Record). r.deadline) (after k below)) ∙ ap (λ (j : ℕ). (sheet_record (mended s) j).deadline) (sym back);
          differs = differs;
        }

    fault-difference : ((fault_change (k + 1) (sheet_record s k)).old ≡ (fault_change (k + 1) (sheet_record s k)).new → ⊥) → Difference s (mended s) (fault_change (k + 1) (sheet_record s k))
    unfolding fault_change value_at Place mended_record
    fault-difference differs =
        record {
          place = omega arith;
          old = ap (λ (j : ℕ). (sheet_record s j).fault_priority) (sym back);
          new = sym (ap (λ (r : Record). r.fault_priority) (after k below)) ∙ ap (λ (j : ℕ). (sheet_record (mended s) j).fault_priority) (sym back);
          differs = differs;
        }

  -- what is listed is a difference
  listed-differs : (c : Change) → Memᴰ c (changes_of s) → Difference s (mended s) c
  unfolding changes_of record_changes
  listed-differs c m = ⊎_elim first later (Memᴰ.append_cases (listed (length_change s)) m)
    where
      first : Memᴰ c (listed (length_change s)) → Difference s (mended s) c
      first l = let is = listed-is c (length_change s) l in subst (Difference s (mended s)) (sym is.0) (length-difference is.1)

      of-record : (k : ℕ) → k < count_of s → Memᴰ c (listed (deadline_change (k + 1) (sheet_record s k))) ⊎ Memᴰ c (listed (fault_change (k + 1) (sheet_record s k))) → Difference s (mended s) c
      of-record k below (inl l) = let is = listed-is c (deadline_change (k + 1) (sheet_record s k)) l in subst (Difference s (mended s)) (sym is.0) (deadline-difference k below is.1)
      of-record k below (inr l) = let is = listed-is c (fault_change (k + 1) (sheet_record s k)) l in subst (Difference s (mended s)) (sym is.0) (fault-difference k below is.1)

      later : Memᴰ c (joined_below (λ k. record_changes (k + 1) (sheet_record s k)) (count_of s)) → Difference s (mended s) c
      later l = let some = joined-some c _ (count_of s) l in of-record some.0 some.1 (Memᴰ.append_cases (listed (deadline_change (some.0 + 1) (sheet_record s some.0))) some.2)

  -- a difference is one of the changes, and is listed
  cut-listed : (c : Change) → c ≡ length_change s → (c.old ≡ c.new → ⊥) → Memᴰ c (changes_of s)
  unfolding changes_of
  cut-listed c is differs = Memᴰ.append_left _ (is-listed c (length_change s) is (subst (λ (d : Change). d.old ≡ d.new → ⊥) is differs))

  record-listed : (c : Change) (k : ℕ) → k < count_of s → Memᴰ c (record_changes (k + 1) (sheet_record s k)) → Memᴰ c (changes_of s)
  unfolding changes_of
  record-listed c k below m = Memᴰ.append_right (listed (length_change s)) (some-joined c _ (count_of s) k below m)

  deadline-listed : (c : Change) (k : ℕ) → c ≡ deadline_change (k + 1) (sheet_record s k) → (c.old ≡ c.new → ⊥) → Memᴰ c (record_changes (k + 1) (sheet_record s k))
  unfolding record_changes
  deadline-listed c k is differs = Memᴰ.append_left _ (is-listed c (deadline_change (k + 1) (sheet_record s k)) is (subst (λ (d : Change). d.old ≡ d.new → ⊥) is differs))

  fault-listed : (c : Change) (k : ℕ) → c ≡ fault_change (k + 1) (sheet_record s k) → (c.old ≡ c.new → ⊥) → Memᴰ c (record_changes (k + 1) (sheet_record s k))
  unfolding record_changes
  fault-listed c k is differs =
      Memᴰ.append_right (listed (deadline_change (k + 1) (sheet_record s k))) (is-listed c (fault_change (k + 1) (sheet_record s k)) is (subst (λ (d : Change). d.old ≡ d.new → ⊥) is differs))

  differs-listed : (field : Field) (place old new : ℕ)
      → Difference s (mended s) (record { place = place; field = field; old = old; new = new }) → Memᴰ (record { place = place; field = field; old = old; new = new }) (changes_of s)
  unfolding length_change deadline_change fault_change value_at Place mended_record
  differs-listed Length place old new d =
      cut-listed _ (λ i. record { place = d.place i; field = Length; old = d.old i; new = (d.new ∙ mended-length s whole) i }) d.differs
  differs-listed Deadline place old new d =
      let at : place ≡ place - 1 + 1 = omega (arith, d.place) in
      let below : place - 1 < count_of s = omega (arith, d.place) in
      record-listed _ (place - 1) below
      (deadline-listed _ (place - 1) (λ i. record { place = at i; field = Deadline; old = d.old i; new = (d.new ∙ ap (λ (r : Record). r.deadline) (after (place - 1) below)) i }) d.differs)
  differs-listed FaultPriority place old new d =
      let at : place ≡ place - 1 + 1 = omega (arith, d.place) in
      let below : place - 1 < count_of s = omega (arith, d.place) in
      record-listed _ (place - 1) below
      (fault-listed _ (place - 1) (λ i. record { place = at i; field = FaultPriority; old = d.old i; new = (d.new ∙ ap (λ (r : Record). r.fault_priority) (after (place - 1) below)) i }) d.differs)

  -- "the changes listed are exactly the differences between the two sheets"
  pub listed-exactly : (c : Change) → Memᴰ c (changes_of s) ↔ Difference s (mended s) c
  listed-exactly c = (listed-differs c, differs-listed c.field c.place c.old c.new)

-- ranks rise over one list and then over the next
rises-weaken : (cs : List Change) (low low' high : ℕ) → low ≤ low' → Rises low' cs high → Rises low cs high
rises-weaken [] low low' high h r = omega arith
rises-weaken (c ∷ cs) low low' high h r = (omega (arith, r.0), r.1)

rises-append : (xs ys : List Change) (low mid high : ℕ) → Rises low xs mid → Rises mid ys high → Rises low (xs ++ ys) high
rises-append [] ys low mid high r q = rises-weaken ys low mid high r q
rises-append (x ∷ xs) ys low mid high r q = (r.0, rises-append xs ys (rank x + 1) mid high r.1 q)

rises-listed : (c : Change) (low high : ℕ) → low ≤ rank c → rank c < high → Rises low (listed c) high
unfolding listed
rises-listed c low high h k = go (eqb c.old c.new)
  where
    go : (b : Bool) → Rises low (cond b [] (c ∷ [])) high
    go true = omega arith
    go false = (h, omega arith)

rises-joined : (f : ℕ → List Change) → ((k : ℕ) → Rises (3 * k + 3) (f k) (3 * k + 6)) → (n : ℕ) → Rises 3 (joined_below f n) (3 * n + 3)
unfolding joined_below
rises-joined f each zero = omega arith
rises-joined f each (suc n) = rises-append (joined_below f n) (f n) 3 (3 * n + 3) (3 * suc n + 3) (rises-joined f each n) (subst (Rises (3 * n + 3) (f n)) (omega arith) (each n))

rises-record : (r : Record) (k : ℕ) → Rises (3 * k + 3) (record_changes (k + 1) r) (3 * k + 6)
unfolding record_changes deadline_change fault_change rank field_number
rises-record r k =
    rises-append (listed (deadline_change (k + 1) r)) (listed (fault_change (k + 1) r)) (3 * k + 3) (3 * k + 5) (3 * k + 6)
    (rises-listed (deadline_change (k + 1) r) (3 * k + 3) (3 * k + 5) (omega arith) (omega arith)) (rises-listed (fault_change (k + 1) r) (3 * k + 5) (3 * k + 6) (omega arith) (omega arith))

-- the list's ranks rise: the cut, then the records
pub changes-rise : (s : List ℕ) → Rises 0 (changes_of s) (3 * count_of s + 3)
unfolding changes_of length_change rank field_number
changes-rise s =
    rises-append (listed (length_change s)) _ 0 3 (3 * count_of s + 3) (rises-listed (length_change s) 0 3 (omega arith) (omega arith)) (rises-joined _ (λ k. rises-record (sheet_record s k) k) (count_of s))
