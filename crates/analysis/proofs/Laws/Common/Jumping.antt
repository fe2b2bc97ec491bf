-- How far a trial that is too short may be passed over: what comes often is taken at its rate, what comes seldom as often as in the trial. Assumes nothing.
use Prim.Native.Nat.{ℕ, ◌+◌, ◌-◌, ◌*◌, ◌/◌, ◌≤◌, ◌<◌}
use mathlib.Core.Path.{◌≡◌, ap, subst}
use native.Mathlib.Nat.{div-mul-le_self, mul-le-mul_left, mul-le-mul_right}
use native.Mathlib.Omega.{arith}
use Rattle.analysis.specs.Common.Rounding.{up}
use Rattle.analysis.proofs.Laws.Common.Rounding.{up-enough, up_least}

-- a length times the rate of a term, in parts of a unit and rounded down, is no more than what the term asks of the length
pub rate-asked : (unit period cost L : ℕ) → 1 ≤ period → L * (unit * cost / period) ≤ unit * (up L period * cost)
rate-asked unit period cost L some =
    let rate = unit * cost / period in
    let turns = up L period in
    let first : L * rate ≤ turns * period * rate = mul-le-mul_right rate (up-enough L period some) in
    let second : turns * (rate * period) ≤ turns * (unit * cost) = mul-le-mul_left turns (div-mul-le_self (unit * cost) period) in
    omega (arith, first, second)

module _ (unit : ℕ) (total : ℕ → ℕ) where
  -- a total is a rest and what is taken at its rate
  abbrev pub Parted : ℕ → (ℕ → ℕ) → ℕ → Type 0
  Parted trial rest rate = (L : ℕ) → trial ≤ L → unit * rest L + L * rate ≤ unit * total L

  -- one more term of the rest taken at its rate
  pub parted-more : (trial : ℕ) (rest fewer : ℕ → ℕ) (rate period cost : ℕ) → 1 ≤ period → ((L : ℕ) → rest L ≡ fewer L + up L period * cost) → Parted trial rest rate → Parted trial fewer (rate + unit * cost / period)
  parted-more trial rest fewer rate period cost some split parted L past =
      let known : unit * (fewer L + up L period * cost) + L * rate ≤ unit * total L = subst (λ (n : ℕ). unit * n + L * rate ≤ unit * total L) (split L) (parted L past) in
      omega (arith, known, rate-asked unit period cost L some)

  module _ (trial : ℕ) (rest : ℕ → ℕ) (rate : ℕ) (parted : Parted trial rest rate) (rises : (a b : ℕ) → a ≤ b → rest a ≤ rest b) where
    -- what is known of a length from the trial on that is enough, but for what is already paid
    met : (L paid : ℕ) → trial ≤ L → total L ≤ L + paid → unit * rest trial + L * rate ≤ unit * L + unit * paid
    met L paid past enough =
        let below : unit * rest trial ≤ unit * rest L = mul-le-mul_left unit (rises trial L past) in
        let whole : unit * total L ≤ unit * (L + paid) = mul-le-mul_left unit enough in
        omega (arith, below, whole, parted L past)

    -- where the rates make a unit and the rest is more than what is paid, no length is enough
    pub jump-none : (L paid : ℕ) → 1 ≤ unit → trial ≤ L → unit ≤ rate → paid < rest trial → total L ≤ L + paid → ⊥
    jump-none L paid some past full more enough =
        let all : L * unit ≤ L * rate = mul-le-mul_left L full in
        let over : unit * (paid + 1) ≤ unit * rest trial = mul-le-mul_left unit (omega arith) in
        omega (arith, met L paid past enough, all, over, some)

    -- where they do not, a length that is enough is at least the rest, less what is paid, divided by what the rates leave of a unit, rounded up
    pub jump-least : (L paid : ℕ) → trial ≤ L → rate < unit → paid ≤ rest trial → total L ≤ L + paid → up (unit * (rest trial - paid)) (unit - rate) ≤ L
    jump-least L paid past room more enough = up_least (unit * (rest trial - paid)) (unit - rate) (omega arith) L (reached (unit - rate) (rest trial - paid) (omega arith) (omega arith))
      where
        reached : (left over : ℕ) → left + rate ≡ unit → over + paid ≡ rest trial → unit * over ≤ L * left
        reached left over split parts =
            let wide : unit * (over + paid) ≡ unit * rest trial = ap (λ (n : ℕ). unit * n) parts in
            let long : L * (left + rate) ≡ L * unit = ap (λ (n : ℕ). L * n) split in
            omega (arith, met L paid past enough, wide, long)
