-- Where the fault priority of a task is its priority, whatever those of the others are, its assured time is its response time: of the two equations, the one with the larger backup is the assured equation. Assumes nothing.
use Prim.Native.Nat.{ℕ, ◌+◌, ◌-◌, ◌*◌, ◌≤◌, ◌<◌, max}
use mathlib.Core.Path.{◌≡◌, refl, sym, ap, ◌∙◌}
use mathlib.Core.Bool.{Bool, true, false, cond, not, ◌&&◌, and-false}
use mathlib.Core.Logic.{◌⊎◌, inl, inr}
use native.Mathlib.Nat.{mul-le-mul_left}
use native.Mathlib.Decide.{ℕ_discrete, dec_le, dec_lt}
use native.Mathlib.Omega.{arith}
use borrow.Author.Tests.{eq-eqb, ne_eqb, le-ltb}
use lib.Dec.{eqb, ltb, leb}
use Rattle.places.specs.Places.{sum_below}
use Rattle.places.proofs.Tells.{Tells, holds, fails, tells-iff, or-tells, and-tells, eqb_tells, ltb-tells, leb_tells, shown, tells-same}
use Rattle.places.proofs.Agree.{sum-agree, most-agree}
use Rattle.places.proofs.Summed.{sum-none}
use Rattle.places.proofs.Largest.{most-part, most-within}
use Rattle.analysis.specs.Common.Rounding.{up}
use Rattle.analysis.specs.Common.Tasks.{Tasks}
use Rattle.analysis.specs.Common.Backups.{others, everyone, backup_of, largest_backup, backup_elsewhere, backup_from_fault}
use Rattle.analysis.specs.Common.Supplier.{supplier_of}
use Rattle.analysis.specs.Published.Equations.{is_between, struck_elsewhere, struck_itself, asked_elsewhere, asked_itself}
use Rattle.analysis.specs.Published.Response.{time_elsewhere, time_itself, response_within}
use Rattle.analysis.specs.Assured.Equation.{is_over, is_ahead, backup_ahead, assured_equation, asked_assured}
use Rattle.analysis.specs.Assured.Time.{assured_within}
use Rattle.analysis.proofs.Laws.Common.Rounding.{up-some, first-paid}
use Rattle.analysis.proofs.Laws.Common.Climbing.{least-agree}
use Rattle.analysis.proofs.Laws.Common.Easier.{NoLater, least-easier}
use Rattle.analysis.proofs.Laws.Published.Larger.{late-elsewhere, late-itself, on-time}

-- `is_ahead` tells why a task is ahead
pub ahead-tells : (s : Tasks) (i k : ℕ) → Tells ((k ≡ i) ⊎ ((s.fault i < s.fault k) ⊎ ((s.fault k ≡ s.fault i) × ((s.at i).priority < (s.at k).priority)))) (is_ahead s i k)
unfolding is_ahead
ahead-tells s i k =
    or-tells (eqb_tells k i) (or-tells (ltb-tells (s.fault i) (s.fault k)) (and-tells (eqb_tells (s.fault k) (s.fault i)) (ltb-tells (s.at i).priority (s.at k).priority)))

-- the backup of a task that is ahead is at most N
pub ahead-most : (s : Tasks) (i k : ℕ) → k < s.count → (k ≡ i) ⊎ ((s.fault i < s.fault k) ⊎ ((s.fault k ≡ s.fault i) × ((s.at i).priority < (s.at k).priority))) → (s.at k).backup ≤ backup_ahead s i
unfolding backup_ahead
ahead-most s i k below why =
    let part = most-part (λ n. cond (is_ahead s i n) (s.at n).backup 0) s.count k below in
    let whole : cond (is_ahead s i k) (s.at k).backup 0 ≡ (s.at k).backup = simp (shown (ahead-tells s i k) why) in
    omega (arith, part, whole)

-- and N is at most what all of them are: "i itself, the tasks with q above q of i, and the tasks with q equal to q of i and a priority above p of i", and no other task
pub ahead-least : (s : Tasks) (i bound : ℕ) → ((k : ℕ) → k < s.count → (k ≡ i) ⊎ ((s.fault i < s.fault k) ⊎ ((s.fault k ≡ s.fault i) × ((s.at i).priority < (s.at k).priority))) → (s.at k).backup ≤ bound) → backup_ahead s i ≤ bound
unfolding backup_ahead
ahead-least s i bound each = most-within _ s.count bound (λ k below. part k (each k below) (ahead-tells s i k))
  where
    part : (k : ℕ) {P : Type 0} → (P → (s.at k).backup ≤ bound) → {b : Bool} → Tells P b → cond b (s.at k).backup 0 ≤ bound
    part k fits (holds why) = fits why
    part k fits (fails not-ahead) = omega arith

module _ (s : Tasks) (j : ℕ) (below : j < s.count) (some : 1 ≤ s.interval) (raised : s.fault j ≡ (s.at j).priority)
    (under : (k : ℕ) → k < s.count → s.fault k ≤ (s.at k).priority) (apart : (k : ℕ) → k < s.count → (s.at k).priority ≡ (s.at j).priority → k ≡ j) where
  -- a task is ahead exactly if its fault priority is no lower
  ahead-priority : (k : ℕ) → k < s.count → is_ahead s j k ≡ leb (s.fault j) (s.fault k)
  ahead-priority k low-k = tells-same (ahead-tells s j k) (tells-iff into out (leb_tells (s.fault j) (s.fault k)))
    where
      Ahead : Type 0
      Ahead = (k ≡ j) ⊎ ((s.fault j < s.fault k) ⊎ ((s.fault k ≡ s.fault j) × ((s.at j).priority < (s.at k).priority)))

      into : s.fault j ≤ s.fault k → Ahead
      into h = go (ℕ_discrete k j) (dec_lt (s.fault j) (s.fault k))
        where
          go : Dec (k ≡ j) → Dec (s.fault j < s.fault k) → Ahead
          go (yes e) d = inl e
          go (no other) (yes lt) = inr (inl lt)
          go (no other) (no le) =
              let higher : (s.at j).priority ≡ (s.at k).priority → ⊥ = λ e. other (apart k low-k (sym e)) in
              inr (inr (omega arith, omega (arith, under k low-k)))

      out : Ahead → s.fault j ≤ s.fault k
      out (inl e) = omega (arith, ap s.fault e)
      out (inr (inl h)) = omega arith
      out (inr (inr w)) = omega (arith, w.0)

  -- so N is request 3's
  ahead-fault : backup_ahead s j ≡ backup_from_fault s j
  unfolding backup_ahead backup_from_fault largest_backup backup_of everyone
  ahead-fault = most-agree s.count (λ k h. ap (λ (b : Bool). cond b (s.at k).backup 0) (ahead-priority k h))

  -- which is the larger of M and the task's own
  elsewhere-most : backup_elsewhere s j ≤ backup_ahead s j
  unfolding backup_elsewhere largest_backup backup_of backup_ahead
  elsewhere-most = most-within (λ k. cond (others j k && leb (s.at j).priority (s.fault k)) (s.at k).backup 0) s.count _
      (λ k h. omega (arith, most-part (λ n. cond (is_ahead s j n) (s.at n).backup 0) s.count k h, part k h (others j k)))
    where
      part : (k : ℕ) → k < s.count → (o : Bool) → cond (o && leb (s.at j).priority (s.fault k)) (s.at k).backup 0 ≤ cond (is_ahead s j k) (s.at k).backup 0
      part k h true = rw (ahead-priority k h ∙ ap (λ (p : ℕ). leb p (s.fault k)) raised) (omega arith)
      part k h false = omega arith

  ahead-split : backup_ahead s j ≤ max (s.at j).backup (backup_elsewhere s j)
  unfolding backup_elsewhere largest_backup backup_of backup_ahead others
  ahead-split = most-within (λ k. cond (is_ahead s j k) (s.at k).backup 0) s.count _ (λ k h. go k h (ℕ_discrete k j))
    where
      own : (k : ℕ) (b : Bool) → k ≡ j → cond b (s.at k).backup 0 ≤ (s.at j).backup
      own k true e = rw e (omega arith)
      own k false e = omega arith

      go : (k : ℕ) → k < s.count → Dec (k ≡ j) → cond (is_ahead s j k) (s.at k).backup 0 ≤ max (s.at j).backup (backup_elsewhere s j)
      go k h (yes e) = omega (arith, own k (is_ahead s j k) e)
      go k h (no other) =
          let same : cond (is_ahead s j k) (s.at k).backup 0 ≡ cond (not (eqb k j) && leb (s.at j).priority (s.fault k)) (s.at k).backup 0 =
          rw (ahead-priority k h ∙ ap (λ (p : ℕ). leb p (s.fault k)) raised) (rw (ne_eqb k j other) refl) in
          omega (arith, same, most-part (λ n. cond (not (eqb n j) && leb (s.at j).priority (s.fault n)) (s.at n).backup 0) s.count k h)

  -- what the others ask for
  abbrev above : ℕ → ℕ
  above L = sum_below (λ k. cond (ltb (s.at j).priority (s.at k).priority) (up L (s.at k).period * (s.at k).cost) 0) s.count

  over-above : (L : ℕ) → sum_below (λ k. cond (is_over s j (s.fault j) k) (up L (s.at k).period * (s.at k).cost) 0) s.count ≡ above L
  unfolding is_over others
  over-above L = sum-agree s.count (λ k h. ap (λ (b : Bool). cond b (up L (s.at k).period * (s.at k).cost) 0) (go k (ℕ_discrete k j)))
    where
      go : (k : ℕ) → Dec (k ≡ j) → (not (eqb k j) && ltb (s.fault j) (s.at k).priority) ≡ ltb (s.at j).priority (s.at k).priority
      go k (yes e) = rw (eq-eqb k j e) (sym (le-ltb (s.at j).priority (s.at k).priority (omega (arith, ap (λ (n : ℕ). (s.at n).priority) e))))
      go k (no other) = rw (ne_eqb k j other) (ap (λ (p : ℕ). ltb p (s.at k).priority) raised)

  -- and there is no task above q and below p
  between_none : (L : ℕ) → sum_below (λ k. cond (is_between s j (s.fault j) k) ((1 + up L (s.at k).period) * (s.at k).cost) 0) s.count ≡ 0
  unfolding is_between
  between_none L = sum-none _ s.count (λ k h. go k (dec_lt (s.fault j) (s.at k).priority))
    where
      go : (k : ℕ) → Dec (s.fault j < (s.at k).priority) → cond (ltb (s.fault j) (s.at k).priority && ltb (s.at k).priority (s.at j).priority) ((1 + up L (s.at k).period) * (s.at k).cost) 0 ≡ 0
      go k (yes over) = rw (le-ltb (s.at k).priority (s.at j).priority (omega arith)) (rw (and-false (ltb (s.fault j) (s.at k).priority)) refl)
      go k (no not-over) = rw (le-ltb (s.fault j) (s.at k).priority (omega arith)) refl

  -- the three equations side by side
  assured-plain : (L : ℕ) → assured_equation s j L ≡ (s.at j).cost + above L + up L s.interval * backup_ahead s j + supplier_of s.round s.share L
  unfolding assured_equation asked_assured
  assured-plain L = ap (λ (a : ℕ). (s.at j).cost + a + up L s.interval * backup_ahead s j + supplier_of s.round s.share L) (over-above L)

  elsewhere-plain : (L : ℕ) → struck_elsewhere s j L ≡ (s.at j).cost + above L + up L s.interval * backup_elsewhere s j + supplier_of s.round s.share L
  unfolding struck_elsewhere asked_elsewhere
  elsewhere-plain L = refl

  itself-plain : (L : ℕ) → struck_itself s j L ≡ (s.at j).cost + (s.at j).backup + above L + (up L s.interval - 1) * backup_ahead s j + supplier_of s.round s.share L
  unfolding struck_itself asked_itself is_between
  itself-plain L =
      let same : (up L s.interval - 1) * backup_from_fault s j ≡ (up L s.interval - 1) * backup_ahead s j = ap (λ (n : ℕ). (up L s.interval - 1) * n) (sym ahead-fault) in
      omega (arith, same, between_none L)

  -- The assured equation asks for no less than either
  elsewhere-less : (L : ℕ) → 1 ≤ L → struck_elsewhere s j L ≤ assured_equation s j L
  elsewhere-less L h = omega (arith, assured-plain L, elsewhere-plain L, mul-le-mul_left (up L s.interval) elsewhere-most)

  itself-less : (L : ℕ) → 1 ≤ L → struck_itself s j L ≤ assured_equation s j L
  itself-less L h = omega (arith, assured-plain L, itself-plain L, first-paid (up L s.interval) (backup_ahead s j) (up-some L s.interval some h), ahead-most s j j below (inl refl))

  -- and is one of them
  assured-elsewhere : backup_ahead s j ≡ backup_elsewhere s j → (limit : ℕ) → assured_within limit s j ≡ time_elsewhere limit s j
  unfolding assured_within time_elsewhere
  assured-elsewhere e limit = least-agree (assured_equation s j) (struck_elsewhere s j) 1 limit (λ L h. assured-plain L ∙ ap (λ (n : ℕ). (s.at j).cost + above L + up L s.interval * n + supplier_of s.round s.share L) e ∙ sym (elsewhere-plain L))

  assured-itself : backup_ahead s j ≡ (s.at j).backup → (limit : ℕ) → assured_within limit s j ≡ time_itself limit s j
  unfolding assured_within time_itself
  assured-itself e limit = least-agree (assured_equation s j) (struck_itself s j) 1 limit (λ L h. omega (arith, assured-plain L, itself-plain L, first-paid (up L s.interval) (backup_ahead s j) (up-some L s.interval some h)))

  elsewhere-sooner : (limit : ℕ) → NoLater (time_elsewhere limit s j) (assured_within limit s j)
  unfolding assured_within time_elsewhere
  elsewhere-sooner limit = least-easier (struck_elsewhere s j) (assured_equation s j) limit elsewhere-less

  itself-sooner : (limit : ℕ) → NoLater (time_itself limit s j) (assured_within limit s j)
  unfolding assured_within time_itself
  itself-sooner limit = least-easier (struck_itself s j) (assured_equation s j) limit itself-less

  -- the assured time is the response time, within every limit
  pub assured-response : (limit : ℕ) → assured_within limit s j ≡ response_within limit s j
  assured-response limit = go (ℕ_discrete (assured_within limit s j) 0) (dec_le (s.at j).backup (backup_elsewhere s j))
    where
      go : Dec (assured_within limit s j ≡ 0) → Dec ((s.at j).backup ≤ backup_elsewhere s j) → assured_within limit s j ≡ response_within limit s j
      go (yes none) (yes elsewhere) =
          let same = assured-elsewhere (omega (arith, elsewhere-most, ahead-split)) limit in
          none ∙ late-elsewhere limit s j (sym same ∙ none)
      go (yes none) (no own) =
          let same = assured-itself (omega (arith, ahead-split, ahead-most s j j below (inl refl))) limit in
          none ∙ itself-none (sym same ∙ none) (ℕ_discrete (time_elsewhere limit s j) 0)
        where
          itself-none : time_itself limit s j ≡ 0 → Dec (time_elsewhere limit s j ≡ 0) → 0 ≡ response_within limit s j
          itself-none e (yes z) = late-elsewhere limit s j z
          itself-none e (no z) = late-itself limit s j z e
      go (no found) (yes elsewhere) =
          let same = assured-elsewhere (omega (arith, elsewhere-most, ahead-split)) limit in
          let first = elsewhere-sooner limit (omega arith) in
          let second = itself-sooner limit (omega arith) in
          omega (arith, same, on-time limit s j (λ z. omega arith) (λ z. omega arith))
      go (no found) (no own) =
          let same = assured-itself (omega (arith, ahead-split, ahead-most s j j below (inl refl))) limit in
          let first = elsewhere-sooner limit (omega arith) in
          let second = itself-sooner limit (omega arith) in
          omega (arith, same, on-time limit s j (λ z. omega arith) (λ z. omega arith))
