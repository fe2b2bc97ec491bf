-- The equations of the published times as demands over tasks in order, what each search over them finds, and M and N there. Assumes nothing.
use Prim.Native.Nat.{ℕ, ◌+◌, ◌-◌, ◌*◌, ◌≤◌, ◌<◌}
use mathlib.Core.Path.{◌≡◌, refl, sym, ◌∙◌}
use mathlib.Core.Bool.{true, false, cond, not, ◌&&◌}
use native.Mathlib.Decide.{ℕ_discrete}
use native.Mathlib.Omega.{arith}
use borrow.Author.Tests.{eq-eqb, ne_eqb, lt-leb}
use lib.Dec.{eqb, ltb}
use Rattle.places.specs.Places.{sum_below}
use Rattle.places.proofs.Agree.{sum-agree}
use Rattle.places.proofs.Summed.{sum-plus}
use Rattle.places.proofs.Gathered.{most-until}
use Rattle.sheet.specs.declared.Record.{Record}
use Rattle.analysis.specs.Common.Rounding.{up}
use Rattle.analysis.specs.Common.Tasks.{Tasks}
use Rattle.analysis.specs.Common.Backups.{others, everyone, backup_of, largest_backup, backup_elsewhere, backup_from_fault}
use Rattle.analysis.specs.Common.Demand.{largest_before, runs_of, load_of, demand_of}
use Rattle.analysis.specs.Common.ByRank.{InOrder, ChosenIn}
use Rattle.analysis.specs.Common.Search.{least_within}
use Rattle.analysis.specs.Published.Equations.{is_between, asked_elsewhere, asked_itself, struck_elsewhere, struck_itself}
use Rattle.analysis.specs.Published.Response.{time_elsewhere, time_itself}
use Rattle.analysis.specs.Published.Demands.{elsewhere_demand, itself_demand}
use Rattle.analysis.proofs.Laws.Common.Rounding.{up-some, up_one, first-paid}
use Rattle.analysis.proofs.Laws.Common.Climbing.{least-agree}
use Rattle.analysis.proofs.Laws.Common.Ranked.{no-runs}
use Rattle.analysis.proofs.Laws.Common.InOrder.{priority_in, run_in, above-tied, between-from}

-- a backup that is not meant brings nothing
unmeant : (r : Record) (q priority : ℕ) → backup_of r false q priority ≡ 0
unfolding backup_of
unmeant r q priority = refl

-- the task at a rank
module _ (s : Tasks) (order : InOrder s) (i : ℕ) (low : i < s.count) where
  -- the equation of a task struck elsewhere, with any M
  pub elsewhere-tied : (M L : ℕ) → demand_of s (elsewhere_demand s i M) L ≡ asked_elsewhere s i M L
  unfolding demand_of load_of asked_elsewhere
  elsewhere-tied M L = omega (arith, above-tied s order i low L, no-runs s (i + 1) 0 L (omega arith))

  -- so the search finds the same
  pub elsewhere-found : (M limit : ℕ) → least_within (demand_of s (elsewhere_demand s i M)) 1 limit ≡ least_within (asked_elsewhere s i M) 1 limit
  elsewhere-found M limit = least-agree _ (asked_elsewhere s i M) 1 limit (λ L above. elsewhere-tied M L)

  -- under a fault priority
  module _ (fault : ℕ) (fits : fault + i ≤ s.count) where
    -- the tasks above its fault priority are those before this rank
    abbrev last : ℕ
    last = s.count - fault

    -- "above q and below p": those after it and before the last, each as often as L has periods and once more
    once_more : (L k : ℕ) → k < s.count → (1 + up L (s.at k).period) * (s.at k).cost ≡ run_in s L k + run_in s 1 k
    once_more L k below = rw (up_one (s.at k).period (order.period k below)) (omega arith)

    between-tied : (L : ℕ) → sum_below (λ k. cond (ltb fault (priority_in s k) && ltb (priority_in s k) (priority_in s i)) ((1 + up L (s.at k).period) * (s.at k).cost) 0) s.count
        ≡ runs_of s (i + 1) last L + runs_of s (i + 1) last 1
    unfolding runs_of
    between-tied L =
        between-from s order i low fault fits (λ k. (1 + up L (s.at k).period) * (s.at k).cost)
        ∙ sum-agree (last - (i + 1)) (λ k below. once_more L (i + 1 + k) (omega arith))
        ∙ sum-plus (λ k. run_in s L (i + 1 + k)) (λ k. run_in s 1 (i + 1 + k)) (last - (i + 1))

    -- the equation of a task struck itself, with any N, from a length of 1 on
    pub itself-tied : (N L : ℕ) → 1 ≤ L → demand_of s (itself_demand s i fault N) L ≡ asked_itself s i fault N L
    unfolding demand_of load_of asked_itself is_between
    itself-tied N L long = omega (arith, above-tied s order i low L, between-tied L, first-paid (up L s.interval) N (up-some L s.interval order.often long))

    -- and the search finds the same
    pub itself-found : (N limit : ℕ) → least_within (demand_of s (itself_demand s i fault N)) 1 limit ≡ least_within (asked_itself s i fault N) 1 limit
    itself-found N limit = least-agree _ (asked_itself s i fault N) 1 limit (λ L above. itself-tied N L above)

-- what M and N are there, under fault priorities
module _ (s : Tasks) (order : InOrder s) (chosen : ChosenIn s) (i : ℕ) (low : i < s.count) where
  abbrev own : ℕ
  own = (s.at i).priority

  -- a backup that runs below a priority brings nothing there
  too-low : (k above : ℕ) → s.fault k < above → backup_of (s.at k) true (s.fault k) above ≡ 0
  unfolding backup_of
  too-low k above h = simp (lt-leb above (s.fault k) h)

  -- M is the largest of those before it
  pub elsewhere-backup : largest_before s i own ≡ backup_elsewhere s i
  unfolding largest_before backup_elsewhere largest_backup others
  elsewhere-backup =
      sym
      (most-until (λ k. backup_of (s.at k) (not (eqb k i)) (s.fault k) own) (λ k. backup_of (s.at k) true (s.fault k) own) i s.count (omega arith)
      (λ k before. rw (ne_eqb k i (λ e. omega arith)) refl) (λ k after below. go k after below (ℕ_discrete k i)))
    where
      go : (k : ℕ) → i ≤ k → k < s.count → Dec (k ≡ i) → backup_of (s.at k) (not (eqb k i)) (s.fault k) own ≡ 0
      go k after below (yes e) = rw (eq-eqb k i e) (unmeant (s.at k) (s.fault k) own)
      go k after below (no e) = rw (ne_eqb k i e) (too-low k own (omega (arith, order.priority i low, (chosen k below).1)))

  -- N of those before the last and one more
  pub itself-backup : largest_before s (s.count - s.fault i + 1) (s.fault i) ≡ backup_from_fault s i
  unfolding largest_before backup_from_fault largest_backup everyone
  itself-backup =
      let fault = chosen i low in
      sym
      (most-until (λ k. backup_of (s.at k) true (s.fault k) (s.fault i)) (λ k. backup_of (s.at k) true (s.fault k) (s.fault i)) (s.count - s.fault i + 1) s.count (omega arith)
      (λ k before. refl) (λ k after below. too-low k (s.fault i) (omega (arith, (chosen k below).1))))

-- the times are those of the equations with these
module _ (limit : ℕ) (s : Tasks) (i : ℕ) where
  pub elsewhere-asked : least_within (asked_elsewhere s i (backup_elsewhere s i)) 1 limit ≡ time_elsewhere limit s i
  unfolding time_elsewhere struck_elsewhere
  elsewhere-asked = refl

  pub itself-asked : least_within (asked_itself s i (s.fault i) (backup_from_fault s i)) 1 limit ≡ time_itself limit s i
  unfolding time_itself struck_itself
  itself-asked = refl
