-- A task is late exactly if one of the two times is not within its deadline. Assumes nothing.
use Prim.Native.Nat.{ℕ, ◌≤◌, max}
use mathlib.Core.Path.{◌≡◌, refl, sym, ap, ◌∙◌}
use mathlib.Core.Bool.{Bool, true, false, true≢false, cond, not, ◌||◌}
use native.Mathlib.Decide.{ℕ_discrete}
use native.Mathlib.Omega.{arith}
use borrow.Author.Tests.{eq-eqb, ne_eqb}
use lib.Dec.{eqb}
use Rattle.analysis.specs.Common.Tasks.{Tasks}
use Rattle.analysis.specs.Published.Response.{time_elsewhere, time_itself, response_within, response_time, late}
use Rattle.analysis.specs.Common.Entries.{is_late}
use Rattle.analysis.proofs.Laws.Published.Cut.{late-cut}

-- the larger of two times, 0 where one of them is
larger-none : (a b : ℕ) → eqb (cond (eqb a 0 || eqb b 0) 0 (max a b)) 0 ≡ (eqb a 0 || eqb b 0)
larger-none a b = go (ℕ_discrete a 0) (ℕ_discrete b 0)
  where
    go : Dec (a ≡ 0) → Dec (b ≡ 0) → eqb (cond (eqb a 0 || eqb b 0) 0 (max a b)) 0 ≡ (eqb a 0 || eqb b 0)
    go (yes none) side = simp (eq-eqb a 0 none)
    go (no some) (yes none) = simp (ne_eqb a 0 some, eq-eqb b 0 none)
    go (no some) (no other) = simp (ne_eqb a 0 some, ne_eqb b 0 other) (ne_eqb (max a b) 0 (λ e. some (omega arith)))

pub late-either : (s : Tasks) (i deadline : ℕ) → deadline ≡ (s.at i).deadline → deadline ≤ 65535 → late s i ≡ (eqb (time_elsewhere deadline s i) 0 || eqb (time_itself deadline s i) 0)
unfolding response_within response_time
late-either s i deadline same within = go (s.at i).deadline same
  where
    go : (D : ℕ) → deadline ≡ D → is_late D (response_within 65535 s i) ≡ (eqb (time_elsewhere deadline s i) 0 || eqb (time_itself deadline s i) 0)
    go D e = ap (λ (n : ℕ). is_late n (response_within 65535 s i)) (sym e) ∙ sym (late-cut deadline 65535 within s i) ∙ larger-none (time_elsewhere deadline s i) (time_itself deadline s i)

-- as two tests, the second only where the first is passed
pub second-asked : (a b : Bool) → not a ≡ true → not (not b) ≡ (a || b)
second-asked true b e = absurd (true≢false (sym e))
second-asked false true e = refl
second-asked false false e = refl

pub first-missed : (a b : Bool) → not a ≡ false → true ≡ (a || b)
first-missed true b e = refl
first-missed false b e = absurd (true≢false e)
