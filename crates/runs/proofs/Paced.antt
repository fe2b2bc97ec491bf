-- What comes at most once in a span, told by how far its countdown has run: in the last x ticks it came at most (x + wait) / span times. That never falls over a tick, rises by one when it comes, and is at most up(x, span) between ticks. Assumes nothing.
use Prim.Native.Nat.{ℕ, zero, suc, ◌+◌, ◌-◌, ◌/◌, ◌≤◌}
use mathlib.Core.Path.{◌≡◌, sym, ap, ◌∙◌}
use native.Mathlib.Nat.{le-div_iff_mul-le, div-mul-le_self, div-zero, le_trans, le_of_eq, add-div_right}
use native.Mathlib.Omega.{arith}
use Rattle.analysis.specs.Common.Rounding.{up}

unfoldable pub times : ℕ → ℕ → ℕ → ℕ
times x wait span = (x + wait) / span

-- a larger number has no smaller quotient
quotient-rises : (b : ℕ) {a c : ℕ} → a ≤ c → a / b ≤ c / b
quotient-rises zero {a} {c} h = le_of_eq (div-zero a ∙ sym (div-zero c))
quotient-rises (suc b) {a} {c} h = (le-div_iff_mul-le {k = suc b} {x = a / suc b} {y = c} (omega arith)).1 (le_trans (div-mul-le_self a (suc b)) h)

module _ (x wait span : ℕ) where
  -- it comes: the wait is over, and is the whole span again
  pub times-comes : 1 ≤ span → wait ≡ 0 → times x span span ≡ times x wait span + 1
  unfolding times
  times-comes some over =
      let same : x + wait ≡ x = omega arith in
      add-div_right x some ∙ sym (ap (λ (n : ℕ). n / span + 1) same)

  -- a tick ends
  pub times-ends : times x wait span ≤ times (x + 1) (wait - 1) span
  unfolding times
  times-ends = quotient-rises span (omega arith)

  -- the wait is below the span
  pub times-most : wait ≤ span - 1 → times x wait span ≤ up x span
  unfolding times up
  times-most low = quotient-rises span (omega arith)
