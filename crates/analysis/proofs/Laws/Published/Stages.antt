-- Struck itself as document 01 had it, in two stages, before request 3 of document 02 replaced them by one equation: tasks with q = p keep their answers. Assumes nothing.
use Prim.Native.Nat.{ℕ, zero, suc, ◌+◌, ◌-◌, ◌*◌, ◌≤◌, ◌<◌, max}
use mathlib.Core.Path.{◌≡◌, refl, sym, ap, ap₂, ◌∙◌}
use mathlib.Core.Bool.{Bool, true, false, cond, not, ◌&&◌, ◌||◌}
use native.Mathlib.Nat.{le_refl, le_of_eq, mul-le-mul_right, mul_comm, mul-sub}
use native.Mathlib.Decide.{ℕ_discrete, dec_lt}
use native.Mathlib.Omega.{arith}
use borrow.Author.Tests.{eq-eqb, ne_eqb, lt-ltb, le-ltb}
use lib.Dec.{eqb, ltb}
use Rattle.places.specs.Places.{sum_below}
use Rattle.places.proofs.Agree.{sum-agree}
use Rattle.places.proofs.Summed.{sum-rises, sum_less}
use Rattle.analysis.specs.Common.Rounding.{up}
use Rattle.analysis.specs.Common.Tasks.{Tasks}
use Rattle.analysis.specs.Common.Backups.{others, everyone, largest_backup, backup_from_fault}
use Rattle.analysis.specs.Published.Equations.{is_between, struck_itself, asked_itself}
use Rattle.analysis.specs.Common.Search.{least_within}
use Rattle.analysis.specs.Published.Response.{time_elsewhere, time_itself, response_within}
use Rattle.analysis.proofs.Laws.Common.Rounding.{up-rises, up-some}
use Rattle.analysis.specs.Common.Jump.{Missed}
use Rattle.analysis.proofs.Laws.Common.Climbing.{Least, least-says, least-none, least-agree, least-later}
use Rattle.analysis.proofs.Laws.Common.Supplier.{unshared}

-- no priority is above another and below it
none_between : (priority p : ℕ) → (ltb priority p && ltb p priority) ≡ false
none_between priority p = go (dec_lt priority p)
  where
    go : Dec (priority < p) → (ltb priority p && ltb p priority) ≡ false
    go (yes h) = simp (lt-ltb priority p h, le-ltb p priority (omega arith))
    go (no h) = simp (le-ltb priority p (omega arith))

-- "K is the largest B among all records, i included, with q ≥ p of i, or 0."
unfoldable pub backup_after : Tasks → ℕ → ℕ
backup_after s i = largest_backup s everyone (s.at i).priority

-- "B of i, plus up(L1, T) × C for each other record with priority above q of i, plus (up(L1, E) − 1) × N."
unfoldable pub stage_one : Tasks → ℕ → ℕ → ℕ
stage_one s i L =
    (s.at i).backup
    + sum_below (λ k. cond (others i k && ltb (s.fault i) (s.at k).priority) (up L (s.at k).period * (s.at k).cost) 0) s.count
    + (up L s.interval - 1) * backup_from_fault s i

-- "L1 + C of i, plus (up(L, T) − up(L1, T)) × C for each record with priority above p of i, plus (up(L, E) − up(L1, E)) × K."
unfoldable pub stage_two : Tasks → ℕ → ℕ → ℕ → ℕ
stage_two s i L1 L =
    L1 + (s.at i).cost
    + sum_below (λ k. cond (ltb (s.at i).priority (s.at k).priority) ((up L (s.at k).period - up L1 (s.at k).period) * (s.at k).cost) 0) s.count
    + (up L s.interval - up L1 s.interval) * backup_after s i

-- "L1 is the least number ≥ 1 that is at least" stage one's equation
unfoldable pub length_one : ℕ → Tasks → ℕ → ℕ
length_one limit s i = least_within (stage_one s i) 1 limit

-- "the least L ≥ L1 such that L is at least" stage two's equation; none where L1 has no value
unfoldable pub former_itself : ℕ → Tasks → ℕ → ℕ
former_itself limit s i = cond (eqb (length_one limit s i) 0) 0 (least_within (stage_two s i (length_one limit s i)) (length_one limit s i) limit)

-- "The response time is the larger of the two times."
unfoldable pub former_response : ℕ → Tasks → ℕ → ℕ
former_response limit s i = cond (eqb (time_elsewhere limit s i) 0 || eqb (former_itself limit s i) 0) 0 (max (time_elsewhere limit s i) (former_itself limit s i))

times-less : (a b c : ℕ) → (a - b) * c ≡ a * c - b * c
times-less a b c = mul_comm (a - b) c ∙ mul-sub c a b ∙ ap₂ ◌-◌ (mul_comm c a) (mul_comm c b)

-- a task whose backup runs at its own priority, on a processor that is not shared: document 01 knows no other
module _ (s : Tasks) (i : ℕ) (own : s.fault i ≡ (s.at i).priority) (often : 1 ≤ s.interval) (whole : s.round ≡ s.share) where
  -- what the tasks above take of a length
  above : ℕ → ℕ → ℕ
  above L k = cond (ltb (s.at i).priority (s.at k).priority) (up L (s.at k).period * (s.at k).cost) 0

  above-rises : {a b : ℕ} → a ≤ b → (k : ℕ) → above a k ≤ above b k
  unfolding above
  above-rises {a} {b} h k = go (ltb (s.at i).priority (s.at k).priority)
    where
      go : (t : Bool) → cond t (up a (s.at k).period * (s.at k).cost) 0 ≤ cond t (up b (s.at k).period * (s.at k).cost) 0
      go true = mul-le-mul_right (s.at k).cost (up-rises (s.at k).period h)
      go false = le_refl 0

  -- the others above q are those above p
  others-above : (L k : ℕ) → cond (others i k && ltb (s.fault i) (s.at k).priority) (up L (s.at k).period * (s.at k).cost) 0 ≡ above L k
  unfolding others above
  others-above L k = rw own (go (ℕ_discrete k i))
    where
      go : Dec (k ≡ i) → cond (not (eqb k i) && ltb (s.at i).priority (s.at k).priority) (up L (s.at k).period * (s.at k).cost) 0
          ≡ cond (ltb (s.at i).priority (s.at k).priority) (up L (s.at k).period * (s.at k).cost) 0
      go (yes e) = simp (eq-eqb k i e, le-ltb (s.at i).priority (s.at k).priority (le_of_eq (ap (λ (j : ℕ). (s.at j).priority) e)))
      go (no e) = rw (ne_eqb k i e) refl

  -- stage one, and the one equation, with nobody between
  one-is : (L : ℕ) → stage_one s i L ≡ (s.at i).backup + sum_below (above L) s.count + (up L s.interval - 1) * backup_from_fault s i
  unfolding stage_one
  one-is L = omega (arith, sum-agree s.count (λ k below. others-above L k))

  nobody-between : (L n : ℕ) → sum_below (λ k. cond (is_between s i (s.fault i) k) ((1 + up L (s.at k).period) * (s.at k).cost) 0) n ≡ 0
  unfolding sum_below is_between
  nobody-between L zero = refl
  nobody-between L (suc n) =
      let here : cond (is_between s i (s.fault i) n) ((1 + up L (s.at n).period) * (s.at n).cost) 0 ≡ 0 = rw (own, none_between (s.at i).priority (s.at n).priority) refl in
      omega (arith, here, nobody-between L n)

  itself-is : (L : ℕ) → struck_itself s i L ≡ (s.at i).cost + stage_one s i L
  unfolding struck_itself asked_itself is_between above
  itself-is L = omega (arith, one-is L, nobody-between L s.count, unshared s.round s.share whole L)

  one-rises : (a b : ℕ) → a ≤ b → stage_one s i a ≤ stage_one s i b
  one-rises a b h =
      let faults : up a s.interval - 1 ≤ up b s.interval - 1 = omega (arith, up-rises s.interval h) in
      omega (arith, one-is a, one-is b, sum-rises s.count (λ k below. above-rises h k), mul-le-mul_right (backup_from_fault s i) faults)

  -- the least length of stage one is just what it asks
  one-fits : (L1 : ℕ) → 1 ≤ (s.at i).backup → 1 ≤ L1 → stage_one s i L1 ≤ L1 → Missed (stage_one s i) 1 L1 → stage_one s i L1 ≡ L1
  one-fits L1 some low fits short = go (dec_lt (stage_one s i L1) L1)
    where
      go : Dec (stage_one s i L1 < L1) → stage_one s i L1 ≡ L1
      go (yes less) = absurd (omega (arith, short (stage_one s i L1) (omega (arith, one-is L1)) less, one-rises (stage_one s i L1) L1 (omega arith)))
      go (no same) = omega arith

  -- so that stage two asks what the one equation asks
  two_is : (L1 L : ℕ) → stage_one s i L1 ≡ L1 → 1 ≤ L1 → L1 ≤ L → stage_two s i L1 L ≡ struck_itself s i L
  unfolding stage_two backup_after above backup_from_fault
  two_is L1 L fits low h =
      let runs = sum-agree s.count (λ k below. between (ltb (s.at i).priority (s.at k).priority) k) ∙ sum_less {f = above L} {g = above L1} s.count (λ k below. above-rises h k) in
      let grown = sum-rises s.count (λ k below. above-rises h k) in
      let first = up-some L1 s.interval often low in
      let more = up-rises s.interval h in
      let faults = ap (λ (priority : ℕ). (up L s.interval - up L1 s.interval) * largest_backup s everyone priority) (sym own) ∙ times-less (up L s.interval) (up L1 s.interval) (backup_from_fault s i) in
      omega (arith, fits, one-is L1, one-is L, itself-is L, runs, grown, faults, times-less (up L1 s.interval) 1 (backup_from_fault s i), times-less (up L s.interval) 1 (backup_from_fault s i), mul-le-mul_right (backup_from_fault s i) more, mul-le-mul_right (backup_from_fault s i) first)
    where
      between : (t : Bool) (k : ℕ) → cond t ((up L (s.at k).period - up L1 (s.at k).period) * (s.at k).cost) 0 ≡ cond t (up L (s.at k).period * (s.at k).cost) 0 - cond t (up L1 (s.at k).period * (s.at k).cost) 0
      between true k = times-less (up L (s.at k).period) (up L1 (s.at k).period) (s.at k).cost
      between false k = refl

  -- a length that stage one asks too much of is too short for the one equation
  missed-both : {end : ℕ} → Missed (stage_one s i) 1 end → Missed (struck_itself s i) 1 end
  missed-both short k low high = omega (arith, short k low high, itself-is k)

  itself-kept : (limit : ℕ) → 1 ≤ (s.at i).backup → time_itself limit s i ≡ former_itself limit s i
  unfolding time_itself former_itself length_one
  itself-kept limit some = go (least-says (stage_one s i) 1 limit)
    where
      go : {r : ℕ} → Least (stage_one s i) 1 limit r → least_within (struck_itself s i) 1 limit ≡ cond (eqb r 0) 0 (least_within (stage_two s i r) r limit)
      go (Least.none short) = least-none (struck_itself s i) 1 limit (suc limit) (omega arith) (missed-both short)
      go (Least.least {L = L1} low high fits short) =
          let just = one-fits L1 some low fits short in
          rw (ne_eqb L1 0 (λ z. omega arith))
          (sym (least-agree (stage_two s i L1) (struck_itself s i) L1 limit (λ L later. two_is L1 L just low later) ∙ least-later (struck_itself s i) 1 L1 limit low (missed-both short)))

  -- "Tasks with q = p keep their answers."
  pub kept : (limit : ℕ) → 1 ≤ (s.at i).backup → response_within limit s i ≡ former_response limit s i
  unfolding response_within former_response
  kept limit some = rw (itself-kept limit some) refl
