-- The response is the larger of two times: case by case, late where either is, and no later where both are. Assumes nothing.
use Prim.Native.Nat.{ℕ, ◌≤◌, ◌<◌, max}
use mathlib.Core.Path.{◌≡◌, sym}
use mathlib.Core.Bool.{cond, ◌||◌, or-true}
use native.Mathlib.Omega.{arith}
use borrow.Author.Tests.{eq-eqb, ne_eqb, le-ltb, lt-ltb}
use lib.Dec.{eqb, ltb}
use Rattle.analysis.specs.Common.Tasks.{Tasks}
use Rattle.analysis.specs.Published.Response.{time_elsewhere, time_itself, response_within, response_time, late}
use Rattle.analysis.specs.Common.Entries.{is_late}
use native.Mathlib.Decide.{ℕ_discrete, dec_lt}
use Rattle.analysis.proofs.Laws.Common.Easier.{NoLater}

module _ (limit : ℕ) (s : Tasks) (i : ℕ) where
  pub late-elsewhere : time_elsewhere limit s i ≡ 0 → 0 ≡ response_within limit s i
  unfolding response_within
  late-elsewhere e = simp (eq-eqb (time_elsewhere limit s i) 0 e)

  module _ (first : time_elsewhere limit s i ≡ 0 → ⊥) where
    pub late-itself : time_itself limit s i ≡ 0 → 0 ≡ response_within limit s i
    unfolding response_within
    late-itself e = simp (ne_eqb (time_elsewhere limit s i) 0 first, eq-eqb (time_itself limit s i) 0 e)

    pub on-time : (time_itself limit s i ≡ 0 → ⊥) → max (time_elsewhere limit s i) (time_itself limit s i) ≡ response_within limit s i
    unfolding response_within
    on-time second = simp (ne_eqb (time_elsewhere limit s i) 0 first, ne_eqb (time_itself limit s i) 0 second)

-- a task is late exactly if it is so struck elsewhere or struck itself
pub late-either : (s : Tasks) (i : ℕ) → late s i ≡ (is_late (s.at i).deadline (time_elsewhere 65535 s i) || is_late (s.at i).deadline (time_itself 65535 s i))
unfolding response_time response_within is_late
late-either s i = go (s.at i).deadline (time_elsewhere 65535 s i) (time_itself 65535 s i)
  where
    larger : (D a b : ℕ) → ltb D (max a b) ≡ (ltb D a || ltb D b)
    larger D a b = side (dec_lt D a) (dec_lt D b)
      where
        side : Dec (D < a) → Dec (D < b) → ltb D (max a b) ≡ (ltb D a || ltb D b)
        side (yes h) other = simp (lt-ltb D a h, lt-ltb D (max a b) (omega arith))
        side (no h) (yes g) = simp (le-ltb D a (omega arith), lt-ltb D b g, lt-ltb D (max a b) (omega arith))
        side (no h) (no g) = simp (le-ltb D a (omega arith), le-ltb D b (omega arith), le-ltb D (max a b) (omega arith))

    go : (D a b : ℕ) → is_late D (cond (eqb a 0 || eqb b 0) 0 (max a b)) ≡ ((eqb a 0 || ltb D a) || (eqb b 0 || ltb D b))
    go D a b = cases (ℕ_discrete a 0) (ℕ_discrete b 0)
      where
        cases : Dec (a ≡ 0) → Dec (b ≡ 0) → is_late D (cond (eqb a 0 || eqb b 0) 0 (max a b)) ≡ ((eqb a 0 || ltb D a) || (eqb b 0 || ltb D b))
        cases (yes z) other = simp (eq-eqb a 0 z)
        cases (no p) (yes z) = simp (ne_eqb a 0 p, eq-eqb b 0 z) (sym (or-true (ltb D a)))
        cases (no p) (no q) = simp (ne_eqb a 0 p, ne_eqb b 0 q, ne_eqb (max a b) 0 (λ z. omega arith)) (larger D a b)

-- the response, the larger of two times, is no later where both are
pub response-easier : (limit : ℕ) (s r : Tasks) (i : ℕ) → NoLater (time_elsewhere limit s i) (time_elsewhere limit r i) → NoLater (time_itself limit s i) (time_itself limit r i) → NoLater (response_within limit s i) (response_within limit r i)
response-easier limit s r i first second some = go (ℕ_discrete (time_elsewhere limit r i) 0) (ℕ_discrete (time_itself limit r i) 0)
  where
    go : Dec (time_elsewhere limit r i ≡ 0) → Dec (time_itself limit r i ≡ 0) → (1 ≤ response_within limit s i) × (response_within limit s i ≤ response_within limit r i)
    go (yes z) side = absurd (omega (arith, late-elsewhere limit r i z))
    go (no a) (yes z) = absurd (omega (arith, late-itself limit r i a z))
    go (no a) (no b) =
        let one = first (omega arith) in
        let two = second (omega arith) in
        let left = on-time limit s i (λ z. omega arith) (λ z. omega arith) in
        let right = on-time limit r i a b in
        (omega arith, omega arith)
