-- The terms add up to what their equation asks of the length. Assumes nothing.
use Prim.Native.Nat.{ℕ, ◌+◌, ◌-◌, ◌*◌, ◌≤◌, ◌<◌}
use mathlib.Core.Path.{◌≡◌, refl, ap, ◌∙◌}
use mathlib.Core.Bool.{Bool, true, false, cond, and-false}
use mathlib.Core.List.{List}
use native.Mathlib.Nat.{zero-mul}
use native.Mathlib.Decide.{dec_lt}
use native.Mathlib.Omega.{arith}
use borrow.Author.Tests.{lt-ltb, le-ltb}
use lib.Dec.{ltb}
use lib.ListN.{get_or, replicate}
use Rattle.places.specs.Places.{sum_below}
use Rattle.places.proofs.Agree.{sum-agree}
use Rattle.places.proofs.Summed.{sum-plus}
use Rattle.places.proofs.Filled.{filled_at, filled-past, alike_at}
use Rattle.places.proofs.Gathered.{sum-until}
use Rattle.analysis.specs.declared.Equation.{Equation}
use Rattle.analysis.specs.declared.Equation.TheVariants.{Elsewhere, Itself, Assurance}
use Rattle.analysis.specs.Common.Rounding.{up}
use Rattle.analysis.specs.Common.Tasks.{Tasks}
use Rattle.analysis.specs.Common.Backups.{everyone, backup_of, largest_backup, backup_elsewhere, backup_from_fault}
use Rattle.analysis.specs.Common.Supplier.{supplier_of}
use Rattle.analysis.specs.Published.Equations.{is_between, asked_elsewhere, asked_itself, struck_elsewhere, struck_itself}
use Rattle.analysis.specs.Assured.Equation.{is_over, backup_ahead, asked_assured, assured_equation}
use Rattle.analysis.specs.ByEquation.{asked_by}
use Rattle.reasons.specs.declared.Term.{Term}
use Rattle.reasons.specs.Terms.{own_backup, times_of, task_term, no_term, task_terms, is_meant, meant_backup, largest_of, faults_of, fault_term, supplier_term}
use Rattle.reasons.specs.Adding.{amount}

-- what the term at a place amounts to
abbrev pub amount_at : List Term → ℕ → ℕ
amount_at tasks k = amount (get_or tasks k no_term)

-- the largest backup is M, or N by either rule
pub largest-elsewhere : (s : Tasks) (i : ℕ) → largest_of Elsewhere s i ≡ backup_elsewhere s i
unfolding largest_of meant_backup is_meant backup_elsewhere largest_backup backup_of
largest-elsewhere s i = refl

pub largest-itself : (s : Tasks) (i : ℕ) → largest_of Itself s i ≡ backup_from_fault s i
unfolding largest_of meant_backup is_meant backup_from_fault largest_backup backup_of everyone
largest-itself s i = refl

pub largest-assured : (s : Tasks) (i : ℕ) → largest_of Assurance s i ≡ backup_ahead s i
unfolding largest_of meant_backup is_meant backup_ahead
largest-assured s i = refl

-- what a test picks, so many times
picked-times : (b : Bool) (x c : ℕ) → cond b x 0 * c ≡ cond b (x * c) 0
picked-times true x c = refl
picked-times false x c = zero-mul c

module _ (s : Tasks) (i L : ℕ) where
  -- what the record at a place asks for
  abbrev run : Equation → ℕ → ℕ
  run equation k = times_of equation s i L k * (s.at k).cost

  -- the terms of the records amount to what each record asks for
  tasks-amount : (equation : Equation) → s.count ≤ 8 → sum_below (amount_at (task_terms equation s i L)) 8 ≡ sum_below (run equation) s.count
  unfolding task_terms amount
  tasks-amount equation few =
      sum-until (amount_at (task_terms equation s i L)) (run equation) s.count 8 few
      (λ k below. ap amount (filled_at (task_term equation s i L) s.count (replicate 8 no_term) no_term few k below))
      (λ k past below. ap amount (filled-past (task_term equation s i L) s.count (replicate 8 no_term) no_term k past ∙ alike_at no_term 8 k))

  elsewhere-runs : sum_below (run Elsewhere) s.count ≡ sum_below (λ k. cond (ltb (s.at i).priority (s.at k).priority) (up L (s.at k).period * (s.at k).cost) 0) s.count
  unfolding times_of
  elsewhere-runs = sum-agree s.count (λ k below. picked-times (ltb (s.at i).priority (s.at k).priority) (up L (s.at k).period) (s.at k).cost)

  assured-runs : sum_below (run Assurance) s.count ≡ sum_below (λ k. cond (is_over s i (s.fault i) k) (up L (s.at k).period * (s.at k).cost) 0) s.count
  unfolding times_of
  assured-runs = sum-agree s.count (λ k below. picked-times (is_over s i (s.fault i) k) (up L (s.at k).period) (s.at k).cost)

  -- a record above p of i is not between q and p
  apart : (k x y c : ℕ)
      → cond (ltb (s.at i).priority (s.at k).priority) x (cond (is_between s i (s.fault i) k) y 0) * c
      ≡ cond (ltb (s.at i).priority (s.at k).priority) (x * c) 0 + cond (is_between s i (s.fault i) k) (y * c) 0
  unfolding is_between
  apart k x y c = go (dec_lt (s.at i).priority (s.at k).priority)
    where
      go : Dec ((s.at i).priority < (s.at k).priority)
          → cond (ltb (s.at i).priority (s.at k).priority) x (cond (is_between s i (s.fault i) k) y 0) * c
          ≡ cond (ltb (s.at i).priority (s.at k).priority) (x * c) 0 + cond (is_between s i (s.fault i) k) (y * c) 0
      go (yes above) = simp (lt-ltb (s.at i).priority (s.at k).priority above, le-ltb (s.at k).priority (s.at i).priority (omega arith), and-false (ltb (s.fault i) (s.at k).priority)) (omega arith)
      go (no other) = simp (le-ltb (s.at i).priority (s.at k).priority (omega arith)) (omega (arith, picked-times (is_between s i (s.fault i) k) y c))

  itself-runs : sum_below (run Itself) s.count
      ≡ sum_below (λ k. cond (ltb (s.at i).priority (s.at k).priority) (up L (s.at k).period * (s.at k).cost) 0) s.count
      + sum_below (λ k. cond (is_between s i (s.fault i) k) ((1 + up L (s.at k).period) * (s.at k).cost) 0) s.count
  unfolding times_of
  itself-runs =
      sum-agree s.count (λ k below. apart k (up L (s.at k).period) (1 + up L (s.at k).period) (s.at k).cost)
      ∙ sum-plus (λ k. cond (ltb (s.at i).priority (s.at k).priority) (up L (s.at k).period * (s.at k).cost) 0) (λ k. cond (is_between s i (s.fault i) k) ((1 + up L (s.at k).period) * (s.at k).cost) 0) s.count

  -- the sum of all terms
  abbrev pub terms_sum : Equation → ℕ
  terms_sum equation =
      (s.at i).cost + own_backup equation (s.at i) + sum_below (amount_at (task_terms equation s i L)) 8
      + amount (fault_term equation s i L)
      + amount (supplier_term s.round s.share L)

  pub terms-asked : (equation : Equation) → s.count ≤ 8 → terms_sum equation ≡ asked_by equation s i L
  unfolding asked_by struck_elsewhere asked_elsewhere struck_itself asked_itself assured_equation asked_assured supplier_of own_backup faults_of supplier_term amount
  terms-asked equation few = by equation
    where
      by : (e : Equation) → terms_sum e ≡ asked_by e s i L
      by Elsewhere = omega (arith, tasks-amount Elsewhere few, elsewhere-runs, ap (λ (n : ℕ). up L s.interval * n) (largest-elsewhere s i))
      by Itself = omega (arith, tasks-amount Itself few, itself-runs, ap (λ (n : ℕ). (up L s.interval - 1) * n) (largest-itself s i))
      by Assurance = omega (arith, tasks-amount Assurance few, assured-runs, ap (λ (n : ℕ). up L s.interval * n) (largest-assured s i))
