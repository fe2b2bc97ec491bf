-- Good sheets and mended ones: nothing is changed in a good record, nor in a record or a sheet that was mended before. Assumes nothing.
use Prim.Native.Nat.{ℕ, ◌+◌, ◌≤◌}
use mathlib.Core.Path.{◌≡◌, refl, sym, ap, ap₂, subst, ◌∙◌}
use mathlib.Core.Bool.{Bool, true, false, cond}
use mathlib.Core.List.{List, [], ◌++◌}
use native.Mathlib.Nat.{le_of_eq}
use native.Mathlib.Omega.{arith}
use borrow.Author.Tests.{eq-eqb, le-ltb}
use lib.Dec.{ltb}
use lib.ListN.{length, take}
use lib.Seq.{take_all}
use Rattle.places.specs.Places.{joined_below}
use Rattle.places.proofs.Agree.{Agree, joined-agree}
use Rattle.places.proofs.Joined.{joined-none}
use Rattle.sheet.specs.declared.Record.{Record}
use Rattle.sheet.specs.Layout.{count_of, start_of, size_of, said_size, sheet_record, record_bytes}
use Rattle.sheet.specs.Rules.{outside, sheet_refusal}
use Rattle.sheet.proofs.Cases.{Good, good-sheet, good-at, outside-within}
use Rattle.sheet.proofs.Spelled.{Bytes}
use Rattle.mend.specs.declared.Change.{Change}
use Rattle.mend.specs.Mended.{mended_deadline, mended_fault, mended_record, sheet_with, mended}
use Rattle.mend.specs.Changes.{listed, length_change, deadline_change, fault_change, record_changes, changes_of}
use Rattle.mend.proofs.Complete.{Complete}
use Rattle.mend.proofs.Rebuilt.{count-alike, edition-alike, start-alike, cut-with, with-start, with-length, with-records}
use Rattle.mend.proofs.Cut.{mended_at, mended-with, mended-same, at-sized, by_cases}

-- records that agree make the same sheet
pub with-agree : (s : List ℕ) {at at' : ℕ → Record} → Agree (count_of s) at at' → sheet_with s at ≡ sheet_with s at'
unfolding sheet_with
with-agree s same = ap (λ (l : List ℕ). take (start_of s) s ++ l) (joined-agree (count_of s) (λ k below. ap record_bytes (same k below)))

-- a good record is left as it is
good-kept : {n : ℕ} {taken : Bool} (r : Record) → Good n taken r → mended_record r ≡ r
unfolding mended_record mended_deadline mended_fault
good-kept r good = simp (le-ltb r.period r.deadline good.deadline, outside-within r.fault_priority r.priority good.fault)

-- a value that is brought to another stays there
bring-again : (test : ℕ → Bool) (x to : ℕ) → cond (test (cond (test x) to x)) to (cond (test x) to x) ≡ cond (test x) to x
bring-again test x to = go (test x) refl
  where
    either : (b : Bool) → cond b to to ≡ to
    either true = refl
    either false = refl

    go : (b : Bool) → test x ≡ b → cond (test (cond b to x)) to (cond b to x) ≡ cond b to x
    go true e = either (test to)
    go false e = rw e refl

mended-again : (r : Record) → mended_record (mended_record r) ≡ mended_record r
unfolding mended_record mended_deadline mended_fault
mended-again r =
    ap₂ (λ (deadline fault : ℕ). record { cost = r.cost; backup = r.backup; deadline = deadline; period = r.period; priority = r.priority; fault_priority = fault })
    (bring-again (λ x. ltb r.period x) r.deadline r.period) (bring-again (λ x. outside x r.priority) r.fault_priority r.priority)

-- a change that changes nothing is not listed
listed-none : (change : Change) → change.old ≡ change.new → listed change ≡ []
unfolding listed
listed-none change e = simp (eq-eqb change.old change.new e)

module _ (s : List ℕ) (good : sheet_refusal s ≡ 0) where
  good-whole : Complete s
  good-whole = let h = (good-sheet s good).0 in record { long = h.long; known = (h.count, h.edition); fits = le_of_eq (sym h.size) }

  good-records : Agree (count_of s) (mended_at s) (sheet_record s)
  good-records k below = good-kept (sheet_record s k) (good-at (count_of s) (sheet_record s) (good-sheet s good).1 k below)

  -- a good sheet stays as it is
  pub good-mended : Bytes s → mended s ≡ s
  good-mended byte =
      mended-with s good-whole ∙ with-agree s good-records ∙ sym (cut-with s good-whole byte) ∙ take_all (said_size s) s (le_of_eq (good-sheet s good).0.size)

  -- and no change is listed
  pub good-changes : changes_of s ≡ []
  unfolding changes_of length_change record_changes deadline_change fault_change mended_record
  good-changes =
      ap₂ ◌++◌ (listed-none _ (good-sheet s good).0.size) (joined-agree (count_of s) each ∙ joined-none (count_of s))
    where
      each : Agree (count_of s) (λ k. record_changes (k + 1) (sheet_record s k)) (λ k. [])
      each k below =
          let same = good-records k below in
          ap₂ ◌++◌ (listed-none (deadline_change (k + 1) (sheet_record s k)) (sym (ap (λ (r : Record). r.deadline) same)))
          (listed-none (fault_change (k + 1) (sheet_record s k)) (sym (ap (λ (r : Record). r.fault_priority) same)))

-- a sheet with other records, and then with others again
with-again : (s : List ℕ) (whole : Complete s) (at at' : ℕ → Record) → sheet_with (sheet_with s at) at' ≡ sheet_with s at'
unfolding sheet_with
with-again s whole at at' =
    let alike = with-start s whole at in
    ap₂ ◌++◌ (ap (λ (n : ℕ). take n (sheet_with s at)) (start-alike (sheet_with s at) s alike) ∙ alike) (ap (joined_below (λ place. record_bytes (at' place))) (count-alike (sheet_with s at) s alike))

said-three : (s : List ℕ) → 3 ≤ said_size s
unfolding size_of
said-three s = omega arith

-- what a complete sheet is mended to is complete
mended-whole : (s : List ℕ) → Complete s → Complete (mended s)
mended-whole s whole =
    let t = sheet_with s (mended_at s) in
    let alike = with-start s whole (mended_at s) in
    let count = count-alike t s alike in
    let edition = edition-alike t s alike in
    let size : said_size t ≡ length t = ap₂ size_of edition count ∙ sym (with-length s whole (mended_at s)) in
    rw (mended-with s whole) (record { long = subst (λ (n : ℕ). 3 ≤ n) size (said-three t); known = rw (count, edition) whole.known; fits = le_of_eq size })

-- "mending twice is mending once"
pub mended-twice : (s : List ℕ) → Bytes s → mended (mended s) ≡ mended s
mended-twice s byte = by_cases s again (λ short. ap mended (mended-same s short))
  where
    same : (whole : Complete s) → Agree (count_of s) (λ k. mended_record (sheet_record (sheet_with s (mended_at s)) k)) (mended_at s)
    same whole k below = ap mended_record (with-records s whole (mended_at s) (at-sized s whole byte) k below) ∙ mended-again (sheet_record s k)

    again : Complete s → mended (mended s) ≡ mended s
    again whole =
        mended-with (mended s) (mended-whole s whole) ∙ ap (λ (t : List ℕ). sheet_with t (mended_at t)) (mended-with s whole)
        ∙ with-again s whole (mended_at s) _ ∙ with-agree s (same whole) ∙ sym (mended-with s whole)
