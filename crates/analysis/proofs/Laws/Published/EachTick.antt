-- A fault each tick: at E = 1 no task has a time struck itself, nor an assured time, whatever the choice of fault priorities. Assumes nothing.
use Prim.Native.Nat.{ℕ, ◌-◌, ◌*◌, ◌≤◌, ◌<◌}
use mathlib.Core.Path.{◌≡◌, refl, ap, ◌∙◌, subst}
use mathlib.Core.Bool.{cond}
use native.Mathlib.Nat.{add-zero, div-one, le_refl, le_trans, mul-le-mul_left, mul-one}
use native.Mathlib.Omega.{arith}
use borrow.Author.Tests.{eq-eqb, le-leb}
use Rattle.places.proofs.Largest.{most-part}
use Rattle.analysis.specs.Common.Rounding.{up}
use Rattle.analysis.specs.Common.Tasks.{Tasks}
use Rattle.analysis.specs.Common.Backups.{everyone, backup_of, largest_backup, backup_from_fault}
use Rattle.analysis.specs.Published.Equations.{is_between, struck_itself, asked_itself}
use Rattle.analysis.specs.Assured.Equation.{is_ahead, backup_ahead, asked_assured, assured_equation}

-- up(L, 1) = L
up_one : (L : ℕ) → up L 1 ≡ L
unfolding up
up_one L = rw add-zero (div-one L)

-- so many times a number that is not 0
times-some : (a n : ℕ) → 1 ≤ n → a ≤ a * n
times-some a n some = subst (λ (m : ℕ). m ≤ a * n) (mul-one a) (mul-le-mul_left a some)

-- a task at a fault each tick: each fault after the first costs at least its own backup, so that no length is enough
pub itself-never : (s : Tasks) → s.interval ≡ 1 → (i : ℕ) → i < s.count → 1 ≤ (s.at i).cost → 1 ≤ (s.at i).backup → (L : ℕ) → L < struck_itself s i L
unfolding struck_itself asked_itself is_between backup_from_fault largest_backup backup_of everyone
itself-never s each-tick i below costs some L =
    let own = le_trans some (simp (le-leb (s.fault i) (s.fault i) (le_refl _)) at (most-part (λ k. backup_of (s.at k) (everyone k) (s.fault k) (s.fault i)) s.count i below)) in
    let faults : L - 1 ≤ (up L s.interval - 1) * largest_backup s everyone (s.fault i) = rw (ap (up L) each-tick ∙ up_one L) (times-some (L - 1) _ own) in
    omega arith

-- and each fault, its own backup among them, is one for the assured equation
pub assured-never : (s : Tasks) → s.interval ≡ 1 → (i : ℕ) → i < s.count → 1 ≤ (s.at i).cost → 1 ≤ (s.at i).backup → (L : ℕ) → L < assured_equation s i L
unfolding assured_equation asked_assured backup_ahead is_ahead
assured-never s each-tick i below costs some L =
    let own = le_trans some (simp (eq-eqb i i refl) at (most-part (λ k. cond (is_ahead s i k) (s.at k).backup 0) s.count i below)) in
    let faults : L ≤ up L s.interval * backup_ahead s i = rw (ap (up L) each-tick ∙ up_one L) (times-some L _ own) in
    omega arith
