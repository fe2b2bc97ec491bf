-- Changes noted one after the other in room for seventeen. Assumes nothing.
use Prim.Native.Nat.{ℕ, zero, suc, ◌+◌, ◌-◌, ◌*◌, ◌≤◌, ◌<◌}
use mathlib.Core.Path.{◌≡◌, refl, sym, ap, ap₂, ◌∙◌}
use mathlib.Core.Bool.{Bool, true, false, cond}
use mathlib.Core.List.{List, [], ◌∷◌, ◌++◌, append-nil, append_assoc}
use native.Mathlib.Omega.{arith}
use lib.Dec.{eqb}
use lib.ListN.{length, set, replicate, length-append}
use lib.Seq.{set_at, append_snoc}
use Rattle.places.specs.Places.{joined_below}
use Rattle.sheet.specs.declared.Record.{Record}
use Rattle.sheet.specs.Layout.{count_of, sheet_record}
use Rattle.mend.specs.declared.Change.{Change}
use Rattle.mend.specs.declared.Changes.{Changes}
use Rattle.mend.specs.Changes.{no_change, listed, length_change, deadline_change, fault_change, record_changes, changes_of, held}
use Rattle.mend.specs.Steps.{noted, noted_record}

-- one change at most is listed
listed-count : (change : Change) → length (listed change) ≤ 1
unfolding listed
listed-count change = go (eqb change.old change.new)
  where
    go : (b : Bool) → length (cond b [] (change ∷ [])) ≤ 1
    go true = omega arith
    go false = omega arith

-- room for n changes, filled from its start, with one more
room-more : (l : List Change) (change : Change) (n m : ℕ) → n ≡ suc m → set (l ++ replicate n no_change) (length l) change ≡ (l ++ change ∷ []) ++ replicate m no_change
room-more l change n m e = rw e (set_at l no_change (replicate m no_change) change (length l) refl ∙ sym (append_snoc l change (replicate m no_change)))

-- a change noted is a change listed
pub held-noted : (l : List Change) (change : Change) → length l < 17 → noted (held l) change ≡ held (l ++ listed change)
unfolding noted held listed
held-noted l change room = go (eqb change.old change.new)
  where
    go : (b : Bool) → cond b (held l) (record { count = length l + 1; list = set (held l).list (length l) change }) ≡ held (l ++ cond b [] (change ∷ []))
    go true = ap held (sym (append-nil l))
    go false =
        let more : length (l ++ change ∷ []) ≡ length l + 1 = length-append l (change ∷ []) in
        ap₂ (λ (n : ℕ) (list : List Change). record { count = n; list = list }) (sym more)
        (room-more l change (17 - length l) (17 - (length l + 1)) (omega arith) ∙ ap (λ (n : ℕ). (l ++ change ∷ []) ++ replicate (17 - n) no_change) (sym more))

-- two changes more at most
record-count : (place : ℕ) (r : Record) → length (record_changes place r) ≤ 2
unfolding record_changes
record-count place r = simp length-append (omega (arith, listed-count (deadline_change place r), listed-count (fault_change place r)))

-- a record's changes noted are those listed
pub held-record : (l : List Change) (place : ℕ) (r : Record) → length l < 16 → noted_record (held l) place r ≡ held (l ++ record_changes place r)
unfolding noted_record record_changes
held-record l place r room =
    let first = l ++ listed (deadline_change place r) in
    let fits : length first < 17 = simp length-append (omega (arith, listed-count (deadline_change place r))) in
    ap (λ (changes : Changes). noted changes (fault_change place r)) (held-noted l (deadline_change place r) (omega arith))
    ∙ held-noted first (fault_change place r) fits ∙ ap held (append_assoc l (listed (deadline_change place r)) (listed (fault_change place r)))

-- so many changes at most below a place
joined-count : (f : ℕ → List Change) → ((k : ℕ) → length (f k) ≤ 2) → (n : ℕ) → length (joined_below f n) ≤ 2 * n
unfolding joined_below
joined-count f each zero = omega arith
joined-count f each (suc n) = simp length-append (omega (arith, joined-count f each n, each n))

-- after a cut and the changes of fewer than eight records there is room for two more
pub room-left : (cut : Change) (at : ℕ → Record) (n count : ℕ) → n < count → count ≤ 8 → length (listed cut ++ joined_below (λ k. record_changes (k + 1) (at k)) n) < 16
room-left cut at n count below few = simp length-append (omega (arith, listed-count cut, joined-count (λ k. record_changes (k + 1) (at k)) (λ k. record-count (k + 1) (at k)) n))

-- seventeen at most in all
pub all-count : (s : List ℕ) → count_of s ≤ 8 → length (changes_of s) ≤ 17
unfolding changes_of
all-count s few =
    simp length-append (omega (arith, listed-count (length_change s), joined-count (λ k. record_changes (k + 1) (sheet_record s k)) (λ k. record-count (k + 1) (sheet_record s k)) (count_of s)))
