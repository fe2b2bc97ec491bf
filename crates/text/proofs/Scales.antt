-- Numbers rounded up and down by a scale. Assumes nothing.
use Prim.Native.Nat.{ℕ, ◌+◌, ◌*◌, ◌/◌, ◌%◌, ◌≤◌, ◌<◌}
use mathlib.Core.Path.{◌≡◌, ap, ◌∙◌, subst}
use mathlib.Core.Logic.{◌↔◌}
use native.Mathlib.Decide.{ℕ_discrete}
use native.Mathlib.Nat.{mul_comm, mul-mod_left, mod-lt, div-add-mod', mul-le-mul_right, div-le_of_le-mul, div-lt_iff_lt-mul}
use native.Mathlib.Omega.{arith}
use borrow.Author.Tests.{eq-eqb, ne_eqb}
use Rattle.text.specs.Scaling.{up, least_up, least_down}

module _ (n scale : ℕ) where
  -- nothing left over, and something
  up-whole : n % scale ≡ 0 → up n scale ≡ n / scale
  unfolding up
  up-whole e = simp (eq-eqb (n % scale) 0 e)

  up_more : (n % scale ≡ 0 → ⊥) → up n scale ≡ n / scale + 1
  unfolding up
  up_more e = simp (ne_eqb (n % scale) 0 e)

  -- a cost never shrinks below the exact quotient
  pub up-covers : 0 < scale → n ≤ up n scale * scale
  up-covers some = go (ℕ_discrete (n % scale) 0)
    where
      go : Dec (n % scale ≡ 0) → n ≤ up n scale * scale
      go (yes e) = rw (up-whole e) (omega (arith, div-add-mod' n scale))
      go (no e) = rw (up_more e) (omega (arith, div-add-mod' n scale, mod-lt n {m = scale} some))

-- rounded up it is at most a bound exactly if the bound covers it
pub up-within : (n scale bound : ℕ) → 0 < scale → (up n scale ≤ bound) ↔ (n ≤ bound * scale)
up-within n scale bound some =
    (λ fits. omega (arith, up-covers n scale some, mul-le-mul_right {m = up n scale} {n = bound} scale fits), λ covers. go (ℕ_discrete (n % scale) 0) covers)
  where
    go : Dec (n % scale ≡ 0) → n ≤ bound * scale → up n scale ≤ bound
    go (yes e) covers = rw (up-whole n scale e) (div-le_of_le-mul scale (subst (λ (k : ℕ). n ≤ k) (mul_comm bound scale) covers))
    go (no e) covers = rw (up_more n scale e) (less (ℕ_discrete n (bound * scale)))
      where
        less : Dec (n ≡ bound * scale) → n / scale + 1 ≤ bound
        less (yes same) = absurd (e (ap (λ (k : ℕ). k % scale) same ∙ mul-mod_left bound scale))
        less (no apart) = omega (arith, (div-lt_iff_lt-mul {k = scale} {x = n} {y = bound} some).1 (omega arith))

-- the least scale at which a number fits when it is rounded up, and when it is rounded down
pub least-up-is : (n scale : ℕ) → 0 < scale → (least_up n ≤ scale) ↔ (up n scale ≤ 65535)
unfolding least_up
least-up-is n scale some =
    let least = up-within n 65535 scale (omega arith) in
    let fits = up-within n scale 65535 some in
    (λ h. fits.1 (omega (arith, least.0 h)), λ h. least.1 (omega (arith, fits.0 h)))

pub least-down-is : (n scale : ℕ) → 0 < scale → (least_down n ≤ scale) ↔ (n / scale ≤ 65535)
unfolding least_down
least-down-is n scale some =
    let least = div-lt_iff_lt-mul {k = 65536} {x = n} {y = scale} (omega arith) in
    let fits = div-lt_iff_lt-mul {k = scale} {x = n} {y = 65536} some in (
      λ h.
          let below : n < scale * 65536 = least.0 (omega arith) in
          let under : n / scale < 65536 = fits.1 (omega arith) in
          omega arith,
      λ h.
          let below : n < 65536 * scale = fits.0 (omega arith) in
          let under : n / 65536 < scale = least.1 (omega arith) in
          omega arith,
    )
