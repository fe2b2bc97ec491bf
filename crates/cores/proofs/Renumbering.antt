-- Priorities within a core, for any records and any test of which of them are meant: 1 to the number of records, each once, in the old order. Assumes nothing.
use Prim.Native.Nat.{ℕ, suc, ◌+◌, ◌-◌, ◌≤◌, ◌<◌}
use mathlib.Core.Path.{◌≡◌, refl, sym, ap, ap₂, subst, fun_ext}
use mathlib.Core.Bool.{Bool, true, false, ◌&&◌}
use native.Mathlib.Decide.{dec_lt}
use native.Mathlib.Omega.{arith}
use borrow.Author.Tests.{lt-ltb, le-ltb, ltb-true}
use lib.Dec.{ltb}
use lib.ListN.{get_or}
use Rattle.places.proofs.Tells.{both_true, true-both}
use Rattle.places.proofs.Onto.{onto}
use Rattle.sheet.specs.declared.Record.{Record}
use Rattle.analysis.specs.Common.Tasks.{Tasks}
use Rattle.cores.specs.Renumbered.{picked, how_many, priority_among, core_tasks, tasks_at, renumbered}
use Rattle.cores.proofs.Picking.{Picks, picks, many-more-than, many-agree, many-skip, picked-agree, picked-skip}

-- no two records have the same priority
abbrev pub Distinct : (ℕ → Record) → ℕ → Type 0
Distinct at n = (j k : ℕ) → j < n → k < n → (at j).priority ≡ (at k).priority → j ≡ k

module _ (at : ℕ → Record) (test : ℕ → Bool) (n : ℕ) where
  -- whether a record is meant and has a lower priority
  abbrev lower : ℕ → ℕ → Bool
  lower p k = test k && ltb (at k).priority p

  -- where one of them is itself meant, a higher priority has a higher one on the core
  pub among-order : (p q : ℕ) → p < q → (k : ℕ) → k < n → test k ≡ true → (at k).priority ≡ p → priority_among at test n p < priority_among at test n q
  unfolding priority_among
  among-order p q lt k low on here =
      let less = many-more-than (lower p) (lower q) n (λ j h e. let known = both_true (test j) _ e in true-both (test j) _ known.0 (lt-ltb (at j).priority q (omega (arith, ltb-true (at j).priority p known.1))))
      k low (off (test k)) (true-both (test k) _ on (lt-ltb (at k).priority q (omega (arith, here)))) in
      omega (arith, less)
    where
      off : (b : Bool) → (b && ltb (at k).priority p) ≡ false
      off true = le-ltb (at k).priority p (omega (arith, here))
      off false = refl

  -- the priority on the core of a record that is meant is at most the number of those
  pub among-within : (k : ℕ) → k < n → test k ≡ true → priority_among at test n (at k).priority ≤ how_many test n
  unfolding priority_among
  among-within k low on =
      let less = many-more-than (lower (at k).priority) test n (λ j h e. (both_true (test j) _ e).0) k low (off (test k)) on in
      omega (arith, less)
    where
      off : (b : Bool) → (b && ltb (at k).priority (at k).priority) ≡ false
      off true = le-ltb (at k).priority (at k).priority (omega arith)
      off false = refl

  -- priorities on a core start at 1
  pub among-some : (p : ℕ) → 1 ≤ priority_among at test n p
  unfolding priority_among
  among-some p = omega arith

  -- equal priorities are of one record
  pub among-apart : Distinct at n → (j k : ℕ) → j < n → k < n → test j ≡ true → test k ≡ true → priority_among at test n (at j).priority ≡ priority_among at test n (at k).priority → j ≡ k
  among-apart distinct j k low-j low-k on-j on-k e = go (dec_lt (at j).priority (at k).priority) (dec_lt (at k).priority (at j).priority)
    where
      go : Dec ((at j).priority < (at k).priority) → Dec ((at k).priority < (at j).priority) → j ≡ k
      go (yes lt) other = absurd (omega (arith, among-order _ _ lt j low-j on-j refl, e))
      go (no ge) (yes gt) = absurd (omega (arith, among-order _ _ gt k low-k on-k refl, e))
      go (no ge) (no le) = distinct j k low-j low-k (omega arith)

-- A core's tasks, where no two records of the sheet have the same priority
module _ (s : Tasks) (test : ℕ → Bool) (n : ℕ) (distinct : Distinct s.at n) where
  abbrev core : Tasks
  core = core_tasks s test n

  abbrev place_of : ℕ → ℕ
  place_of j = get_or (picked test n) j 0

  known : Picks test n (picked test n)
  known = picks test n

  -- "ranked from 1": 1 to the number of records
  pub priorities-within : (j : ℕ) → j < core.count → (1 ≤ (core.at j).priority) × ((core.at j).priority ≤ core.count)
  unfolding core_tasks tasks_at renumbered
  priorities-within j low =
      (among-some s.at test n (s.at (place_of j)).priority, subst (λ (m : ℕ). priority_among s.at test n (s.at (place_of j)).priority ≤ m) (sym known.many) (among-within s.at test n (place_of j) (known.holds j low).0 (known.holds j low).1))

  -- "in their old order"
  pub priorities-order : (i j : ℕ) → i < core.count → j < core.count → (s.at (place_of i)).priority < (s.at (place_of j)).priority → (core.at i).priority < (core.at j).priority
  unfolding core_tasks tasks_at renumbered
  priorities-order i j low-i low-j lt = among-order s.at test n _ _ lt (place_of i) (known.holds i low-i).0 (known.holds i low-i).1 refl

  -- no two places of a core are one
  pub places-apart : (i j : ℕ) → i < core.count → j < core.count → place_of i ≡ place_of j → i ≡ j
  unfolding core_tasks tasks_at
  places-apart i j low-i low-j e = go (dec_lt i j) (dec_lt j i)
    where
      go : Dec (i < j) → Dec (j < i) → i ≡ j
      go (yes lt) other = absurd (omega (arith, known.rises i j lt low-j))
      go (no ge) (yes gt) = absurd (omega (arith, known.rises j i gt low-i))
      go (no ge) (no le) = omega arith

  -- each priority at most once
  pub priorities-apart : (i j : ℕ) → i < core.count → j < core.count → (core.at i).priority ≡ (core.at j).priority → i ≡ j
  unfolding core_tasks tasks_at renumbered
  priorities-apart i j low-i low-j e =
      places-apart i j low-i low-j (among-apart s.at test n distinct (place_of i) (place_of j) (known.holds i low-i).0 (known.holds j low-j).0 (known.holds i low-i).1 (known.holds j low-j).1 e)

  -- and at least once
  pub priorities-onto : (priority : ℕ) → 1 ≤ priority → priority ≤ core.count → (j : ℕ) × (j < core.count) × ((core.at j).priority ≡ priority)
  priorities-onto priority some few =
      let found = onto core.count (λ j. (core.at j).priority - 1)
      (record {
        within = λ j low. omega (arith, priorities-within j low);
        apart = λ i j low-i low-j e. priorities-apart i j low-i low-j (omega (arith, e, (priorities-within i low-i).0, (priorities-within j low-j).0));
      }) (priority - 1) (omega arith) in
      (found.0, found.1, omega (arith, found.2, (priorities-within found.0 found.1).0))

-- A core's tasks depend on the test below n only
pub tasks-agree : (s : Tasks) (f g : ℕ → Bool) (n : ℕ) → ((k : ℕ) → k < n → f k ≡ g k) → core_tasks s f n ≡ core_tasks s g n
unfolding core_tasks priority_among
tasks-agree s f g n same =
    ap₂ (tasks_at s) (picked-agree f g n same)
    (fun_ext (λ p. ap (λ (m : ℕ). 1 + m) (many-agree (λ k. f k && ltb (s.at k).priority p) (λ k. g k && ltb (s.at k).priority p) n (λ k h. ap (λ (b : Bool). b && ltb (s.at k).priority p) (same k h)))))

-- and a record that is not on the core does not change them
pub tasks-skip : (s : Tasks) (test : ℕ → Bool) (n : ℕ) → test n ≡ false → core_tasks s test (suc n) ≡ core_tasks s test n
unfolding core_tasks priority_among
tasks-skip s test n off =
    ap₂ (tasks_at s) (picked-skip test n off)
    (fun_ext (λ p. ap (λ (m : ℕ). 1 + m) (many-skip (λ k. test k && ltb (s.at k).priority p) n (ap (λ (b : Bool). b && ltb (s.at n).priority p) off))))
