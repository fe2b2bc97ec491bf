-- Late or not, and a test over places, case by case. Assumes nothing.
use Prim.Native.Nat.{ℕ, ◌≤◌}
use mathlib.Core.Path.{◌≡◌, refl}
use mathlib.Core.Bool.{Bool, true, false, cond}
use native.Mathlib.Omega.{arith}
use borrow.Author.Tests.{ne_eqb, eqb-false, le-ltb, ltb-false}
use lib.Dec.{eqb, ltb}
use Rattle.places.proofs.Tells.{neither}
use Rattle.analysis.specs.Common.Entries.{is_late, outcome_of, says_late, entry_from}
use Rattle.analysis.specs.declared.Outcome.TheVariants.{OnTime, Late}

-- a task that is not late has a time within its deadline, and one that has such a time is not
pub on-time-within : (deadline time : ℕ) → is_late deadline time ≡ false → (1 ≤ time) × (time ≤ deadline)
unfolding is_late
on-time-within deadline time is =
    let both = neither (eqb time 0) (ltb deadline time) is in
    let some = eqb-false time 0 both.0 in
    (omega arith, ltb-false deadline time both.1)

pub within-on-time : (deadline time : ℕ) → 1 ≤ time → time ≤ deadline → is_late deadline time ≡ false
unfolding is_late
within-on-time deadline time some low = simp (ne_eqb time 0 (λ z. omega arith), le-ltb deadline time low)

-- an entry says late exactly if its time is
pub entry-late : (deadline time : ℕ) → says_late (entry_from deadline time).outcome ≡ is_late deadline time
unfolding says_late entry_from outcome_of
entry-late deadline time = go (is_late deadline time)
  where
    go : (is : Bool) → says_late (cond is Late (OnTime time)) ≡ is
    go true = refl
    go false = refl
