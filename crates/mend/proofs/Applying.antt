-- The listed changes made one after the other: each puts its own field, and all of them together give the mended sheet. Assumes nothing.
use Prim.Native.Nat.{ℕ, zero, suc, ◌+◌, ◌*◌, ◌-◌, ◌≤◌, ◌<◌}
use mathlib.Core.Path.{◌≡◌, refl, sym, ap, ap₂, subst, ◌∙◌}
use mathlib.Core.Bool.{Bool, true, false, cond}
use mathlib.Core.List.{List, [], ◌∷◌, ◌++◌}
use mathlib.Core.Logic.{◌⊎◌, ⊎_elim}
use native.Mathlib.Nat.{eq-or-lt_of_le, le_of_suc-le-suc, not-suc-le-zero, zero-add, add-zero, suc-add, mul-suc, mul-le-mul_left, le_of_eq}
use native.Mathlib.Decide.{ℕ_discrete, dec_lt}
use native.Mathlib.Omega.{arith}
use borrow.Author.Tests.{eq-eqb, ne_eqb, lt-ltb, le-ltb, eqb-true}
use lib.Dec.{eqb, ltb}
use lib.ListN.{length, set, take, length-set, drop_of_length-le}
use lib.Seq.{sets, sets-eq, set-append_left, take_all}
use mathlib.Core.List.{append-nil}
use Rattle.places.specs.Places.{joined_below}
use Rattle.places.proofs.Agree.{Agree, joined-agree}
use Rattle.places.proofs.Joined.{length-joined}
use Rattle.sheet.specs.declared.Record.{Record}
use Rattle.sheet.specs.Layout.{count_of, start_of, said_size, sheet_record, record_bytes}
use Rattle.sheet.proofs.Spelled.{Bytes, Sized}
use Rattle.sheet.proofs.Stores.{length-record}
use Rattle.mend.specs.declared.Change.{Change}
use Rattle.mend.specs.Mended.{mended_deadline, mended_fault, mended_record, sheet_with, mended}
use Rattle.mend.specs.Changes.{listed, length_change, deadline_change, fault_change, record_changes, changes_of}
use Rattle.mend.specs.Applied.{with_deadline, with_fault, put_at, apply_at, apply, apply_all}
use Rattle.mend.proofs.Complete.{Complete}
use Rattle.mend.proofs.Rebuilt.{start-alike, sheet-sized, start-size, cut-with, with-start, with-records}
use Rattle.mend.proofs.Cut.{mended_at, mended-with, mended-sized}
use Rattle.mend.proofs.Again.{with-agree}

-- changes after changes
apply-append : (xs ys : List Change) (s : List ℕ) → apply_all (xs ++ ys) s ≡ apply_all ys (apply_all xs s)
apply-append [] ys s = refl
apply-append (x ∷ xs) ys s = apply-append xs ys (apply x s)

-- a run of stores within the first of two lists, and within the second
sets-left : (v x y : List ℕ) (i : ℕ) → i + length v ≤ length x → sets (x ++ y) i v ≡ sets x i v ++ y
sets-left [] x y i h = refl
sets-left (a ∷ v) x y i h =
    ap (λ (l : List ℕ). sets l (suc i) v) (set-append_left x y i a (omega arith)) ∙ sets-left v (set x i a) y (suc i) (rw (length-set x i a) (omega arith))

sets-cons : (v : List ℕ) (a : ℕ) (l : List ℕ) (i : ℕ) → sets (a ∷ l) (suc i) v ≡ a ∷ sets l i v
sets-cons [] a l i = refl
sets-cons (b ∷ v) a l i = sets-cons v a (set l i b) (suc i)

sets-right : (x y v : List ℕ) (i : ℕ) → sets (x ++ y) (length x + i) v ≡ x ++ sets y i v
sets-right [] y v i = ap (λ (k : ℕ). sets y k v) (zero-add i)
sets-right (a ∷ x) y v i =
    ap (λ (k : ℕ). sets (a ∷ (x ++ y)) k v) (suc-add (length x) i) ∙ sets-cons v a (x ++ y) (length x + i) ∙ ap (λ (l : List ℕ). a ∷ l) (sets-right x y v i)

-- a run of stores over a whole list
sets-whole : (v y : List ℕ) → length v ≡ length y → sets y 0 v ≡ v
sets-whole v y e =
    sets-eq v y 0 (le_of_eq (zero-add (length v) ∙ e))
    ∙ ap (λ (l : List ℕ). v ++ l) (drop_of_length-le y {i = 0 + length v} (le_of_eq (sym e ∙ sym (zero-add (length v))))) ∙ append-nil v

-- a function of the place with another value at one place
abbrev changed : {A : Type 0} → (ℕ → A) → ℕ → A → ℕ → A
changed f k v j = cond (eqb j k) v (f j)

changed-here : {A : Type 0} (f : ℕ → A) (k : ℕ) (v : A) → changed f k v k ≡ v
changed-here f k v = simp (eq-eqb k k refl)

changed-other : {A : Type 0} (f : ℕ → A) (k : ℕ) (v : A) (j : ℕ) → (j ≡ k → ⊥) → changed f k v j ≡ f j
changed-other f k v j other = simp (ne_eqb j k other)

-- a run of w stores at one of the runs of w elements
sets-joined : (w : ℕ) (f : ℕ → List ℕ) → ((k : ℕ) → length (f k) ≡ w) → (v : List ℕ) → length v ≡ w → (n k : ℕ) → k < n → sets (joined_below f n) (w * k) v ≡ joined_below (changed f k v) n
unfolding joined_below
sets-joined w f each v long zero k h = absurd (not-suc-le-zero h)
sets-joined w f each v long (suc n) k h = go (sets-joined w f each v long n k) (eq-or-lt_of_le (le_of_suc-le-suc h))
  where
    whole : length (joined_below f n) ≡ w * n
    whole = length-joined f w each n

    last : k ≡ n → sets (joined_below f n ++ f n) (w * k) v ≡ joined_below (changed f k v) n ++ changed f k v n
    last e =
        ap (λ (i : ℕ). sets (joined_below f n ++ f n) i v) (ap (λ (j : ℕ). w * j) e ∙ sym whole ∙ sym (add-zero (length (joined_below f n))))
        ∙ sets-right (joined_below f n) (f n) v 0 ∙ ap (λ (l : List ℕ). joined_below f n ++ l) (sets-whole v (f n) (long ∙ sym (each n)))
        ∙ ap₂ ◌++◌ (joined-agree n (λ j below. sym (changed-other f k v j (λ same. omega arith)))) (sym (changed-here f k v) ∙ ap (changed f k v) e)

    earlier : k < n → sets (joined_below f n) (w * k) v ≡ joined_below (changed f k v) n → sets (joined_below f n ++ f n) (w * k) v ≡ joined_below (changed f k v) n ++ changed f k v n
    earlier lt before =
        let room : w * k + w ≤ length (joined_below f n) = subst (λ (m : ℕ). w * k + w ≤ m) (sym whole) (subst (λ (m : ℕ). m ≤ w * n) (mul-suc w k) (mul-le-mul_left w lt)) in
        sets-left v (joined_below f n) (f n) (w * k) (subst (λ (m : ℕ). w * k + m ≤ length (joined_below f n)) (sym long) room) ∙ ap₂ ◌++◌ before (sym (changed-other f k v n (λ same. omega arith)))

    go : (k < n → sets (joined_below f n) (w * k) v ≡ joined_below (changed f k v) n) → (k ≡ n) ⊎ (k < n) → sets (joined_below f n ++ f n) (w * k) v ≡ joined_below (changed f k v) n ++ changed f k v n
    go before side = ⊎_elim last (λ lt. earlier lt (before lt)) side

-- a record put anew in a sheet
module _ (s : List ℕ) (whole : Complete s) (at : ℕ → Record) (k : ℕ) (below : k < count_of s) where
  put-with : (r : Record) → put_at (sheet_with s at) k r ≡ sheet_with s (changed at k r)
  unfolding put_at sheet_with
  put-with r =
      let put : ℕ → List ℕ = λ place. record_bytes (at place) in
      ap (λ (start : ℕ). sets (sheet_with s at) (start + 9 * k) (record_bytes r)) (start-alike (sheet_with s at) s (with-start s whole at) ∙ sym (start-size s whole))
      ∙ sets-right (take (start_of s) s) (joined_below put (count_of s)) (record_bytes r) (9 * k)
      ∙ ap (λ (l : List ℕ). take (start_of s) s ++ l)
      (sets-joined 9 put (λ place. length-record (at place)) (record_bytes r) (length-record r) (count_of s) k below ∙ joined-agree (count_of s) (λ j inside. spread j (eqb j k)))
    where
      spread : (j : ℕ) (b : Bool) → cond b (record_bytes r) (record_bytes (at j)) ≡ record_bytes (cond b r (at j))
      spread j true = refl
      spread j false = refl

  -- a change of one record, listed where it changes anything, puts the record as it is then
  module _ (sized : (j : ℕ) → j < count_of s → Sized (at j)) (put : Record → Record) (change : Change)
      (kept : change.old ≡ change.new → put (at k) ≡ at k) (puts : (x : List ℕ) → apply change x ≡ put_at x k (put (sheet_record x k))) where
    apply-record : apply_all (listed change) (sheet_with s at) ≡ sheet_with s (changed at k (put (at k)))
    unfolding listed
    apply-record = go (eqb change.old change.new) refl
      where
        same : change.old ≡ change.new → Agree (count_of s) at (changed at k (put (at k)))
        same e j inside = pick (ℕ_discrete j k)
          where
            pick : Dec (j ≡ k) → at j ≡ changed at k (put (at k)) j
            pick (yes is) = ap at is ∙ sym (kept e) ∙ sym (changed-here at k (put (at k))) ∙ ap (changed at k (put (at k))) (sym is)
            pick (no other) = sym (changed-other at k (put (at k)) j other)

        go : (b : Bool) → eqb change.old change.new ≡ b → apply_all (cond b [] (change ∷ [])) (sheet_with s at) ≡ sheet_with s (changed at k (put (at k)))
        go true e = with-agree s (same (eqb-true change.old change.new e))
        go false e = puts (sheet_with s at) ∙ ap (λ (r : Record). put_at (sheet_with s at) k (put r)) (with-records s whole at sized k below) ∙ put-with (put (at k))

-- the records below a place mended, the others as they stand
abbrev mended_to : List ℕ → ℕ → ℕ → Record
mended_to s k j = cond (ltb j k) (mended_at s j) (sheet_record s j)

-- a record with its deadline mended
abbrev lowered : List ℕ → ℕ → Record
lowered s k = with_deadline (mended_deadline (sheet_record s k).deadline (sheet_record s k).period) (sheet_record s k)

lowered-fits : (r : Record) → Sized r → Sized (with_deadline (mended_deadline r.deadline r.period) r)
unfolding mended_record
lowered-fits r z = record { cost = z.cost; backup = z.backup; deadline = (mended-sized r z).deadline; period = z.period; priority = z.priority; fault = z.fault }

module _ (s : List ℕ) (whole : Complete s) (byte : Bytes s) where
  to-sized : (k j : ℕ) → j < count_of s → Sized (mended_to s k j)
  to-sized k j below = go (ltb j k)
    where
      go : (b : Bool) → Sized (cond b (mended_at s j) (sheet_record s j))
      go true = mended-sized (sheet_record s j) (sheet-sized s whole byte j below)
      go false = sheet-sized s whole byte j below

  -- the changes of one record, which stands in the sheet as it did
  module _ (k : ℕ) (below : k < count_of s) (at : ℕ → Record) (is : at k ≡ sheet_record s k) (sized : (j : ℕ) → j < count_of s → Sized (at j)) where
    lowered-sized : (j : ℕ) → j < count_of s → Sized (changed at k (lowered s k) j)
    lowered-sized j inside = go (eqb j k)
      where
        go : (b : Bool) → Sized (cond b (lowered s k) (at j))
        go true = lowered-fits (sheet_record s k) (sheet-sized s whole byte k below)
        go false = sized j inside

    deadline-applied : apply_all (listed (deadline_change (k + 1) (sheet_record s k))) (sheet_with s at) ≡ sheet_with s (changed at k (lowered s k))
    unfolding deadline_change apply_at
    deadline-applied =
        let d = mended_deadline (sheet_record s k).deadline (sheet_record s k).period in
        let place : k + 1 - 1 ≡ k = omega arith in
        apply-record s whole at k below sized (with_deadline d) (deadline_change (k + 1) (sheet_record s k)) (λ e. rw is (ap (λ (x : ℕ). with_deadline x (sheet_record s k)) (sym e)))
        (λ x. ap (λ (j : ℕ). put_at x j (with_deadline d (sheet_record x j))) place)
        ∙ ap (λ (r : Record). sheet_with s (changed at k (with_deadline d r))) is

    fault-applied : apply_all (listed (fault_change (k + 1) (sheet_record s k))) (sheet_with s (changed at k (lowered s k))) ≡ sheet_with s (changed at k (mended_at s k))
    unfolding fault_change apply_at mended_record
    fault-applied =
        let q = mended_fault (sheet_record s k).fault_priority (sheet_record s k).priority in
        let at' = changed at k (lowered s k) in
        let place : k + 1 - 1 ≡ k = omega arith in
        let now : at' k ≡ lowered s k = changed-here at k (lowered s k) in
        apply-record s whole at' k below lowered-sized (with_fault q) (fault_change (k + 1) (sheet_record s k)) (λ e. rw now (ap (λ (x : ℕ). with_fault x (lowered s k)) (sym e)))
        (λ x. ap (λ (j : ℕ). put_at x j (with_fault q (sheet_record x j))) place)
        ∙ ap (λ (r : Record). sheet_with s (changed at' k (with_fault q r))) now ∙ with-agree s (λ j inside. pick j (ℕ_discrete j k))
      where
        pick : (j : ℕ) → Dec (j ≡ k) → changed (changed at k (lowered s k)) k (mended_at s k) j ≡ changed at k (mended_at s k) j
        pick j (yes same) = simp (eq-eqb j k same)
        pick j (no other) = simp (ne_eqb j k other)

    record-applied : apply_all (record_changes (k + 1) (sheet_record s k)) (sheet_with s at) ≡ sheet_with s (changed at k (mended_at s k))
    unfolding record_changes
    record-applied =
        apply-append (listed (deadline_change (k + 1) (sheet_record s k))) _ (sheet_with s at)
        ∙ ap (apply_all (listed (fault_change (k + 1) (sheet_record s k)))) deadline-applied ∙ fault-applied

  -- one record more is mended
  to-more : (k : ℕ) → Agree (count_of s) (changed (mended_to s k) k (mended_at s k)) (mended_to s (suc k))
  to-more k j below = go (ℕ_discrete j k) (dec_lt j k)
    where
      go : Dec (j ≡ k) → Dec (j < k) → changed (mended_to s k) k (mended_at s k) j ≡ mended_to s (suc k) j
      go (yes same) w = simp (eq-eqb j k same, lt-ltb j (suc k) (omega arith)) (ap (mended_at s) (sym same))
      go (no other) (yes lt) = simp (ne_eqb j k other, lt-ltb j k lt, lt-ltb j (suc k) (omega arith))
      go (no other) (no above) = simp (ne_eqb j k other, le-ltb j k (omega arith), le-ltb j (suc k) (omega arith))

  -- the changes of the records below a place
  records-applied : (k : ℕ) → k ≤ count_of s → apply_all (joined_below (λ place. record_changes (place + 1) (sheet_record s place)) k) (sheet_with s (sheet_record s)) ≡ sheet_with s (mended_to s k)
  unfolding joined_below
  records-applied zero h = with-agree s (λ j below. simp (le-ltb j 0 (omega arith)))
  records-applied (suc k) h =
      apply-append (joined_below (λ place. record_changes (place + 1) (sheet_record s place)) k) _ (sheet_with s (sheet_record s))
      ∙ ap (apply_all (record_changes (k + 1) (sheet_record s k))) (records-applied k (omega arith)) ∙ record-applied k h (mended_to s k) (simp (le-ltb k k (omega arith))) (to-sized k) ∙ with-agree s (to-more k)

  -- the cut
  cut-applied : apply_all (listed (length_change s)) s ≡ take (said_size s) s
  unfolding listed length_change apply_at
  cut-applied = go (eqb (length s) (said_size s)) refl
    where
      go : (b : Bool) → eqb (length s) (said_size s) ≡ b → apply_all (cond b [] (length_change s ∷ [])) s ≡ take (said_size s) s
      go true e = sym (take_all (said_size s) s (le_of_eq (eqb-true (length s) (said_size s) e)))
      go false e = refl

  -- all of them
  pub changes-applied : apply_all (changes_of s) s ≡ mended s
  unfolding changes_of
  changes-applied =
      let later = joined_below (λ place. record_changes (place + 1) (sheet_record s place)) (count_of s) in
      apply-append (listed (length_change s)) later s ∙ ap (apply_all later) (cut-applied ∙ cut-with s whole byte) ∙ records-applied (count_of s) (omega arith)
      ∙ with-agree s (λ j below. simp (lt-ltb j (count_of s) below)) ∙ sym (mended-with s whole)
