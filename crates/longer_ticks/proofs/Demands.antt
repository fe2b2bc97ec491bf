-- Larger numbers: tasks that pass, or are assured, in ticks that are K times as long do so in their own, over numbers of any size, and each time is at most K times the scaled one. "with L' enough for the scaled tasks,
-- K × L' is enough for the unscaled, because up(K × L', T) ≤ up(L', T') for T' = T / K rounded down". Assumes nothing.
use Prim.Native.Nat.{ℕ, zero, suc, ◌+◌, ◌-◌, ◌*◌, ◌/◌, ◌%◌, ◌≤◌, ◌<◌}
use mathlib.Core.Path.{◌≡◌, refl, sym, ap, ◌∙◌}
use mathlib.Core.Bool.{Bool, true, false, cond, not, ◌&&◌}
use mathlib.Core.Logic.{◌⊎◌, inl, inr, ◌↔◌}
use native.Mathlib.Nat.{div-zero, div-add-mod', div-mul-le_self, mul-sub, mul-le-mul, mul-le-mul_left, mul-zero, le_trans}
use native.Mathlib.Decide.{ℕ_discrete, dec_le}
use native.Mathlib.Omega.{arith}
use borrow.Author.Tests.{ne_eqb, eqb-false, not-true}
use lib.Dec.{eqb, ltb, leb}
use Rattle.places.specs.Places.{some_below, sum_below, most_below}
use Rattle.places.proofs.Some.{some-none, none-at}
use Rattle.places.proofs.Largest.{most-part, most-within}
use Rattle.analysis.specs.Common.Rounding.{up}
use Rattle.analysis.specs.Common.Tasks.{Tasks}
use Rattle.analysis.specs.Common.Search.{least_within}
use Rattle.analysis.specs.Common.Supplier.{supplier_of}
use Rattle.analysis.specs.Common.Backups.{others, everyone, backup_of, largest_backup, backup_elsewhere, backup_from_fault}
use Rattle.longer_ticks.specs.Scaled.{scaled_part, scaled_tasks, Scalable, NoneLate}
use Rattle.analysis.specs.Published.Equations.{is_between, asked_elsewhere, struck_elsewhere, asked_itself, struck_itself}
use Rattle.analysis.specs.Published.Response.{time_elsewhere, time_itself, response_within, response_time, late, passes}
use Rattle.analysis.specs.Assured.Equation.{is_over, is_ahead, backup_ahead, asked_assured, assured_equation}
use Rattle.analysis.specs.Assured.Time.{assured_within, assured_time, unassured, assured}
use Rattle.analysis.proofs.Laws.Common.Rounding.{up-enough, up_least}
use Rattle.analysis.proofs.Laws.Common.Climbing.{Least, least-says}
use Rattle.analysis.proofs.Laws.Common.Supplier.{unshared}
use Rattle.analysis.proofs.Laws.Common.Verdicts.{on-time-within}
use Rattle.analysis.proofs.Laws.Published.Cut.{late-cut}
use Rattle.analysis.proofs.Laws.Published.Larger.{late-elsewhere, late-itself, on-time}
use Rattle.analysis.proofs.Laws.Assured.Lateness.{unassured-within}
use Rattle.analysis.proofs.Demands.{passes-exactly}

-- what leaves a tick is not 0
divisor-some : (K n : ℕ) → 1 ≤ n / K → 1 ≤ K
divisor-some zero n some = absurd (omega (arith, div-zero n))
divisor-some (suc K) n some = omega arith

-- "up(K × L', T) ≤ up(L', T') for T' = T / K rounded down"
pub up-scaled : (K L T : ℕ) → 1 ≤ T / K → up (K * L) T ≤ up L (T / K)
up-scaled K L T some =
    let whole = div-mul-le_self T K in
    let one = mul-le-mul some (divisor-some K T some) in
    let enough = mul-le-mul_left K (up-enough L (T / K) some) in
    let longer = mul-le-mul_left (up L (T / K)) whole in
    up_least (K * L) T (omega arith) (up L (T / K)) (omega arith)

module _ (K : ℕ) where
  -- no more jobs, each of at most K times the cost
  product-scaled : {u v c : ℕ} (d : ℕ) → u ≤ v → c ≤ K * d → u * c ≤ K * (v * d)
  product-scaled d fewer less = omega (arith, mul-le-mul fewer less)

  -- what a test picks
  picked-scaled : (b : Bool) {x : ℕ} (y : ℕ) → x ≤ K * y → cond b x 0 ≤ K * cond b y 0
  picked-scaled true y less = less
  picked-scaled false y less = omega arith

  -- a sum and a largest of what is at most K times as much at each place
  sum-scaled : (f g : ℕ → ℕ) (n : ℕ) → ((k : ℕ) → k < n → f k ≤ K * g k) → sum_below f n ≤ K * sum_below g n
  unfolding sum_below
  sum-scaled f g zero each = omega arith
  sum-scaled f g (suc n) each = omega (arith, sum-scaled f g n (λ k h. each k (omega arith)), each n (omega arith))

  most-scaled : (f g : ℕ → ℕ) (n : ℕ) → ((k : ℕ) → k < n → f k ≤ K * g k) → most_below f n ≤ K * most_below g n
  most-scaled f g n each = most-within f n (K * most_below g n) (λ k h. le_trans (each k h) (mul-le-mul_left K (most-part g n k h)))

  -- one time, searched for far enough, is no later than K times another
  abbrev pub NoLaterThan : ℕ → ℕ → ℕ → Type 0
  NoLaterThan far a b = 1 ≤ b → K * b ≤ far → (1 ≤ a) × (a ≤ K * b)

  -- "with L' enough for the scaled tasks, K × L' is enough for the unscaled"
  least-scaled : (f g : ℕ → ℕ) (limit far : ℕ) → 1 ≤ K → ((L : ℕ) → f (K * L) ≤ K * g L) → NoLaterThan far (least_within f 1 far) (least_within g 1 limit)
  least-scaled f g limit far scale less = go (least-says g 1 limit) (least-says f 1 far)
    where
      go : {a b : ℕ} → Least g 1 limit b → Least f 1 far a → 1 ≤ b → K * b ≤ far → (1 ≤ a) × (a ≤ K * b)
      go (Least.none short) side there room = absurd (omega arith)
      go (Least.least {L = L} low high fits short) (Least.none late) there room =
          absurd (omega (arith, late (K * L) (omega (arith, mul-le-mul scale low)) (omega arith), less L, mul-le-mul_left K fits))
      go (Least.least {L = L} low high fits short) (Least.least {L = J} first last holds before) there room = (first, split (dec_le J (K * L)))
        where
          split : Dec (J ≤ K * L) → J ≤ K * L
          split (yes h) = h
          split (no h) = absurd (omega (arith, before (K * L) (omega (arith, mul-le-mul scale low)) (omega arith), less L, mul-le-mul_left K fits))

module _ (K : ℕ) (s : Tasks) (fits : Scalable K s) where
  -- K is not 0
  scale-some : 1 ≤ K
  scale-some = divisor-some K s.interval fits.interval

  -- K times what is rounded up is no less than the whole
  rounded-up : (n : ℕ) → n ≤ K * up n K
  rounded-up n = omega (arith, up-enough n K scale-some)

  -- what the jobs of a task ask for, and with one job more
  runs-scaled : (L k : ℕ) → k < s.count → up (K * L) (s.at k).period * (s.at k).cost ≤ K * (up L ((s.at k).period / K) * up (s.at k).cost K)
  runs-scaled L k below = product-scaled K (up (s.at k).cost K) (up-scaled K L (s.at k).period (fits.period k below)) (rounded-up (s.at k).cost)

  once-more-scaled : (L k : ℕ) → k < s.count → (1 + up (K * L) (s.at k).period) * (s.at k).cost ≤ K * ((1 + up L ((s.at k).period / K)) * up (s.at k).cost K)
  once-more-scaled L k below =
      let fewer : 1 + up (K * L) (s.at k).period ≤ 1 + up L ((s.at k).period / K) = omega (arith, up-scaled K L (s.at k).period (fits.period k below)) in
      product-scaled K (up (s.at k).cost K) fewer (rounded-up (s.at k).cost)

  -- what the supplier takes
  supplier-scaled : (L : ℕ) → supplier_of s.round s.share (K * L) ≤ K * supplier_of (scaled_part K s s.round) (scaled_part K s s.share) L
  unfolding supplier_of scaled_part
  supplier-scaled L = go (ℕ_discrete s.round s.share) fits.shared
    where
      divided : (round share : ℕ) → round % K ≡ 0 → share % K ≡ 0 → up (K * L) round * (round - share) ≤ K * (up L (round / K) * (round / K - share / K))
      divided round share even also = side (dec_le 1 (round / K))
        where
          rest : round - share ≤ K * (round / K - share / K)
          rest = omega (arith, div-add-mod' round K, div-add-mod' share K, mul-sub K (round / K) (share / K))

          side : Dec (1 ≤ round / K) → up (K * L) round * (round - share) ≤ K * (up L (round / K) * (round / K - share / K))
          side (yes some) = product-scaled K (round / K - share / K) (up-scaled K L round some) rest
          side (no none) =
              let quotient : round / K ≡ 0 = omega arith in
              let nothing : round - share ≡ 0 = omega (arith, div-add-mod' round K, ap (λ (n : ℕ). n * K) quotient) in
              rw (nothing, mul-zero (up (K * L) round)) (omega arith)

      go : Dec (s.round ≡ s.share) → (s.round ≡ s.share) ⊎ ((s.round % K ≡ 0) × (s.share % K ≡ 0)) → up (K * L) s.round * (s.round - s.share) ≤ K * supplier_of (scaled_part K s s.round) (scaled_part K s s.share) L
      go (yes ours) side = omega (arith, unshared s.round s.share ours (K * L))
      go (no other) (inl ours) = absurd (other ours)
      go (no other) (inr both) = simp (ne_eqb s.round s.share other) (divided s.round s.share both.0 both.1)

  -- the largest backup at or above a priority, and of those ahead
  largest-scaled : (meant : ℕ → Bool) (priority : ℕ) → largest_backup s meant priority ≤ K * largest_backup (scaled_tasks K s) meant priority
  unfolding largest_backup backup_of
  largest-scaled meant priority = most-scaled K _ _ s.count (λ k h. picked-scaled K (meant k && leb priority (s.fault k)) (up (s.at k).backup K) (rounded-up (s.at k).backup))

  ahead-scaled : (i : ℕ) → backup_ahead s i ≤ K * backup_ahead (scaled_tasks K s) i
  unfolding backup_ahead is_ahead
  ahead-scaled i = most-scaled K _ _ s.count (λ k h. picked-scaled K (is_ahead s i k) (up (s.at k).backup K) (rounded-up (s.at k).backup))

  -- what the tasks ask for that a test picks, and with one job more of each
  above-scaled : (test : ℕ → Bool) (L : ℕ)
      → sum_below (λ k. cond (test k) (up (K * L) (s.at k).period * (s.at k).cost) 0) s.count ≤ K * sum_below (λ k. cond (test k) (up L ((s.at k).period / K) * up (s.at k).cost K) 0) s.count
  above-scaled test L = sum-scaled K _ _ s.count (λ k h. picked-scaled K (test k) _ (runs-scaled L k h))

  between-scaled : (test : ℕ → Bool) (L : ℕ)
      → sum_below (λ k. cond (test k) ((1 + up (K * L) (s.at k).period) * (s.at k).cost) 0) s.count ≤ K * sum_below (λ k. cond (test k) ((1 + up L ((s.at k).period / K)) * up (s.at k).cost K) 0) s.count
  between-scaled test L = sum-scaled K _ _ s.count (λ k h. picked-scaled K (test k) _ (once-more-scaled L k h))

  module _ (i : ℕ) where
    -- each equation asks of K × L at most K times what the scaled one asks of L
    elsewhere-asked : (L : ℕ) → struck_elsewhere s i (K * L) ≤ K * struck_elsewhere (scaled_tasks K s) i L
    unfolding struck_elsewhere asked_elsewhere backup_elsewhere
    elsewhere-asked L =
        let faults = product-scaled K (largest_backup (scaled_tasks K s) (others i) (s.at i).priority) (up-scaled K L s.interval fits.interval) (largest-scaled (others i) (s.at i).priority) in
        omega (arith, rounded-up (s.at i).cost, above-scaled (λ k. ltb (s.at i).priority (s.at k).priority) L, faults, supplier-scaled L)

    itself-asked : (L : ℕ) → struck_itself s i (K * L) ≤ K * struck_itself (scaled_tasks K s) i L
    unfolding struck_itself asked_itself backup_from_fault is_between
    itself-asked L =
        let fewer : up (K * L) s.interval - 1 ≤ up L (s.interval / K) - 1 = omega (arith, up-scaled K L s.interval fits.interval) in
        let faults = product-scaled K (largest_backup (scaled_tasks K s) everyone (s.fault i)) fewer (largest-scaled everyone (s.fault i)) in
        let above = above-scaled (λ k. ltb (s.at i).priority (s.at k).priority) L in
        let between = between-scaled (λ k. ltb (s.fault i) (s.at k).priority && ltb (s.at k).priority (s.at i).priority) L in
        omega (arith, rounded-up (s.at i).cost, rounded-up (s.at i).backup, above, between, faults, supplier-scaled L)

    assured-asked : (L : ℕ) → assured_equation s i (K * L) ≤ K * assured_equation (scaled_tasks K s) i L
    unfolding assured_equation asked_assured is_over
    assured-asked L =
        let faults = product-scaled K (backup_ahead (scaled_tasks K s) i) (up-scaled K L s.interval fits.interval) (ahead-scaled i) in
        omega (arith, rounded-up (s.at i).cost, above-scaled (λ k. others i k && ltb (s.fault i) (s.at k).priority) L, faults, supplier-scaled L)

    -- so each time within a limit is at most K times the scaled one, where the search goes that far
    module _ (limit far : ℕ) where
      elsewhere-scaled : NoLaterThan K far (time_elsewhere far s i) (time_elsewhere limit (scaled_tasks K s) i)
      unfolding time_elsewhere
      elsewhere-scaled = least-scaled K _ _ limit far scale-some elsewhere-asked

      itself-scaled : NoLaterThan K far (time_itself far s i) (time_itself limit (scaled_tasks K s) i)
      unfolding time_itself
      itself-scaled = least-scaled K _ _ limit far scale-some itself-asked

      pub assured-scaled : NoLaterThan K far (assured_within far s i) (assured_within limit (scaled_tasks K s) i)
      unfolding assured_within
      assured-scaled = least-scaled K _ _ limit far scale-some assured-asked

      pub response-scaled : NoLaterThan K far (response_within far s i) (response_within limit (scaled_tasks K s) i)
      response-scaled some room = go (ℕ_discrete (time_elsewhere limit (scaled_tasks K s) i) 0) (ℕ_discrete (time_itself limit (scaled_tasks K s) i) 0)
        where
          go : Dec (time_elsewhere limit (scaled_tasks K s) i ≡ 0) → Dec (time_itself limit (scaled_tasks K s) i ≡ 0)
              → (1 ≤ response_within far s i) × (response_within far s i ≤ K * response_within limit (scaled_tasks K s) i)
          go (yes z) side = absurd (omega (arith, late-elsewhere limit (scaled_tasks K s) i z))
          go (no a) (yes z) = absurd (omega (arith, late-itself limit (scaled_tasks K s) i a z))
          go (no a) (no b) =
              let larger = on-time limit (scaled_tasks K s) i a b in
              let first : time_elsewhere limit (scaled_tasks K s) i ≤ response_within limit (scaled_tasks K s) i = omega arith in
              let second : time_itself limit (scaled_tasks K s) i ≤ response_within limit (scaled_tasks K s) i = omega arith in
              let left = mul-le-mul_left K first in
              let right = mul-le-mul_left K second in
              let one = elsewhere-scaled (omega arith) (omega arith) in
              let two = itself-scaled (omega arith) (omega arith) in
              let both = on-time far s i (λ z. omega arith) (λ z. omega arith) in
              (omega arith, omega arith)

  -- each task's time is at most K times its scaled one, by either rule
  pub scaled-response : (i far : ℕ) → NoLaterThan K far (response_within far s i) (response_time (scaled_tasks K s) i)
  unfolding response_time
  scaled-response i far = response-scaled i 65535 far

  pub scaled-assured-time : (i far : ℕ) → NoLaterThan K far (assured_within far s i) (assured_time (scaled_tasks K s) i)
  unfolding assured_time
  scaled-assured-time i far = assured-scaled i 65535 far

  -- a scaled time within the scaled deadline leaves K times as much within the deadline
  within-deadline : (deadline time : ℕ) → time ≤ deadline / K → K * time ≤ deadline
  within-deadline deadline time low = omega (arith, mul-le-mul_left K low, div-mul-le_self deadline K)

  -- "what passes, or is assured, when scaled, passes, or is assured, unscaled, over numbers of any size"
  pub scaled-passes : passes (scaled_tasks K s) ≡ true → NoneLate response_within s
  scaled-passes e i below =
      let known = on-time-within ((s.at i).deadline / K) (response_time (scaled_tasks K s) i) ((passes-exactly (scaled_tasks K s)).0 e i below) in
      (scaled-response i (s.at i).deadline known.0 (within-deadline (s.at i).deadline (response_time (scaled_tasks K s) i) known.1)).0

  pub scaled-assured : assured (scaled_tasks K s) ≡ true → NoneLate assured_within s
  unfolding assured
  scaled-assured e i below =
      let none = not-true (some_below (unassured (scaled_tasks K s)) s.count) e in
      let known = on-time-within ((s.at i).deadline / K) (assured_time (scaled_tasks K s) i) (none-at (unassured (scaled_tasks K s)) s.count i below none) in
      (scaled-assured-time i (s.at i).deadline known.0 (within-deadline (s.at i).deadline (assured_time (scaled_tasks K s) i) known.1)).0

-- a time is there within each deadline exactly where the test of each task says that it is not late
none-late-tested : (time_within : ℕ → Tasks → ℕ → ℕ) (s : Tasks) (test : ℕ → Bool) → ((i : ℕ) → i < s.count → eqb (time_within (s.at i).deadline s i) 0 ≡ test i) → NoneLate time_within s ↔ (not (some_below test s.count) ≡ true)
none-late-tested time_within s test same = (
  λ each. ap not (some-none test s.count (λ i below. sym (same i below) ∙ ne_eqb (time_within (s.at i).deadline s i) 0 (λ z. omega (arith, each i below)))),
  λ e i below.
      let some = eqb-false (time_within (s.at i).deadline s i) 0 (same i below ∙ none-at test s.count i below (not-true (some_below test s.count) e)) in
      omega arith,
)

-- where each deadline has 16 bits that is the verdict itself, by either rule
module _ (s : Tasks) (short : (i : ℕ) → i < s.count → (s.at i).deadline ≤ 65535) where
  pub none-late-passes : NoneLate response_within s ↔ (passes s ≡ true)
  unfolding passes response_time
  none-late-passes = none-late-tested response_within s (late s) (λ i below. late-cut (s.at i).deadline 65535 (short i below) s i)

  pub none-late-assured : NoneLate assured_within s ↔ (assured s ≡ true)
  unfolding assured
  none-late-assured = none-late-tested assured_within s (unassured s) (λ i below. unassured-within s i (s.at i).deadline refl (short i below))
