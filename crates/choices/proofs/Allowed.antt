-- Which entries and which choices are allowed: an entry from the first one to p, and the first entries themselves. Assumes nothing.
use Prim.Native.Nat.{ℕ, zero, suc, ◌-◌, ◌≤◌, ◌<◌}
use mathlib.Core.Path.{◌≡◌, refl, sym}
use mathlib.Core.Bool.{Bool, true, false, not, ◌||◌}
use mathlib.Core.List.{List, [], ◌∷◌, map}
use native.Mathlib.Decide.{dec_lt}
use native.Mathlib.Omega.{arith}
use borrow.Author.Tests.{lt-ltb, le-ltb}
use lib.Dec.{ltb, eqb-suc-zero}
use Rattle.places.proofs.Tells.{true-both}
use Rattle.analysis.specs.Common.Allowed.{is_allowed, all_allowed}
use Rattle.analysis.proofs.Laws.Common.Choice.{allowed-for, allowed-past}
use Rattle.choices.specs.Choices.{in_row, entries_for}
use Rattle.choices.specs.Stepping.{first_for}

-- an allowed entry lies from the first one to p
pub allowed-within : (p q : ℕ) → is_allowed p q ≡ true → (first_for p ≤ q) × (q ≤ p)
unfolding first_for
allowed-within zero q e = omega (arith, (allowed-past q).0 e)
allowed-within (suc p) q e = rw (eqb-suc-zero p) ((allowed-for (suc p) q (omega arith)).0 e)

-- and one that does is allowed
pub within-allowed : (p q : ℕ) → first_for p ≤ q → q ≤ p → is_allowed p q ≡ true
unfolding first_for
within-allowed zero q low high = (allowed-past q).1 (omega arith)
within-allowed (suc p) q low high = (allowed-for (suc p) q (omega arith)).1 (rw (eqb-suc-zero p) at low, high)

-- so that two comparisons tell
pub allowed-told : (p q : ℕ) → not (ltb q (first_for p) || ltb p q) ≡ is_allowed p q
allowed-told p q = go (dec_lt q (first_for p)) (dec_lt p q)
  where
    out : (b : Bool) → (b ≡ true → ⊥) → false ≡ b
    out true never = absurd (never refl)
    out false never = refl

    go : Dec (q < first_for p) → Dec (p < q) → not (ltb q (first_for p) || ltb p q) ≡ is_allowed p q
    go (yes low) side = simp (lt-ltb q (first_for p) low) (out (is_allowed p q) (λ e. omega (arith, allowed-within p q e)))
    go (no low) (yes high) = simp (le-ltb q (first_for p) (omega arith), lt-ltb p q high) (out (is_allowed p q) (λ e. omega (arith, allowed-within p q e)))
    go (no low) (no high) = simp (le-ltb q (first_for p) (omega arith), le-ltb p q (omega arith)) (sym (within-allowed p q (omega arith) (omega arith)))

-- so the first one is
pub first-fault : (p : ℕ) → is_allowed p (first_for p) ≡ true
unfolding first_for
first-fault zero = (allowed-past 0).1 refl
first-fault (suc p) = rw (eqb-suc-zero p) ((allowed-for (suc p) 1 (omega arith)).1 (omega arith))

-- the entries allowed at a place, in a row from the first one to p
pub entries-first : (p : ℕ) → entries_for p ≡ first_for p ∷ in_row (suc (first_for p)) (p - first_for p)
unfolding entries_for first_for in_row
entries-first zero = refl
entries-first (suc p) =
    let left : suc p - 1 ≡ p = omega arith in
    rw (eqb-suc-zero p, left)

-- the first entries are allowed
pub first-allowed : (ps : List ℕ) → all_allowed ps (map first_for ps) ≡ true
unfolding all_allowed
first-allowed [] = refl
first-allowed (p ∷ ps) = true-both _ _ (first-fault p) (first-allowed ps)
