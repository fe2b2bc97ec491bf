-- Tasks that agree below their count have the same assured times; so a table whose own fault priorities are replaced by a choice is assured exactly if the choice is. Assumes nothing.
use Prim.Native.Nat.{ℕ, ◌+◌, ◌*◌, ◌≤◌, ◌<◌}
use mathlib.Core.Path.{◌≡◌, ap, ap₂, ◌∙◌, fun_ext}
use mathlib.Core.Bool.{cond, not, ◌&&◌, ◌||◌}
use mathlib.Core.List.{List}
use lib.Dec.{eqb, ltb}
use lib.ListN.{get_or}
use Rattle.places.specs.Places.{sum_below}
use Rattle.places.proofs.Agree.{some-agree, sum-agree, most-agree}
use Rattle.sheet.specs.declared.Record.{Record}
use Rattle.sheet.specs.declared.Table.{Table}
use Rattle.sheet.specs.Layout.{record_at}
use Rattle.sheet.proofs.Agree.{room_at}
use Rattle.analysis.specs.Common.Supplier.{supplier_of}
use Rattle.analysis.specs.Common.Rounding.{up}
use Rattle.analysis.specs.Common.Tasks.{Tasks, tasks_of}
use Rattle.analysis.specs.Common.Backups.{others}
use Rattle.analysis.specs.Common.Search.{least_within}
use Rattle.analysis.specs.Common.Entries.{is_late, own_tasks}
use Rattle.analysis.specs.Assured.Equation.{asked_assured, is_over, is_ahead, backup_ahead, assured_equation}
use Rattle.analysis.specs.Assured.Time.{assured_within, assured_time, assured}
use Rattle.analysis.proofs.Laws.Common.Choice.{own_at}
use Rattle.assured.specs.Replaced.{with_fault, replaced}

-- the times of a task, which its own fault priority in its record has no part in
module _ (n interval round share : ℕ) (at at' : ℕ → Record) (fault fault' : ℕ → ℕ) (same : (k : ℕ) → k < n → with_fault (at k) 0 ≡ with_fault (at' k) 0) (priorities : (k : ℕ) → k < n → fault k ≡ fault' k) where
  abbrev first : Tasks
  first = record { count = n; at = at; interval = interval; round = round; share = share; fault = fault }

  abbrev second : Tasks
  second = record { count = n; at = at'; interval = interval; round = round; share = share; fault = fault' }

  ahead-same : (i : ℕ) → i < n → backup_ahead first i ≡ backup_ahead second i
  unfolding backup_ahead is_ahead
  ahead-same i low-i =
      most-agree n (λ k below.
      ap₂ (λ (q p : ℕ). cond (eqb k i || (ltb q (fault k) || (eqb (fault k) q && ltb p (at k).priority))) (at k).backup 0) (priorities i low-i) (ap (λ (r : Record). r.priority) (same i low-i))
      ∙ ap₂ (λ (q : ℕ) (r : Record). cond (eqb k i || (ltb (fault' i) q || (eqb q (fault' i) && ltb (at' i).priority r.priority))) r.backup 0) (priorities k below) (same k below))

  equation-same : (i : ℕ) → i < n → (L : ℕ) → assured_equation first i L ≡ assured_equation second i L
  unfolding asked_assured supplier_of assured_equation is_over
  equation-same i low-i L =
      ap₂ (λ (c a : ℕ). c + a + up L interval * backup_ahead first i + supplier_of round share L) (ap (λ (r : Record). r.cost) (same i low-i))
      (sum-agree n (λ k below. ap₂ (λ (q : ℕ) (r : Record). cond (others i k && ltb q r.priority) (up L r.period * r.cost) 0) (priorities i low-i) (same k below)))
      ∙ ap (λ (N : ℕ). (at' i).cost + sum_below (λ k. cond (others i k && ltb (fault' i) (at' k).priority) (up L (at' k).period * (at' k).cost) 0) n + up L interval * N + supplier_of round share L) (ahead-same i low-i)

  pub time-same : (i : ℕ) → i < n → assured_time first i ≡ assured_time second i
  unfolding assured_time assured_within
  time-same i low-i = ap (λ (f : ℕ → ℕ). least_within f 1 65535) (fun_ext (equation-same i low-i))

  pub assured-same : assured first ≡ assured second
  unfolding assured
  assured-same = ap not (some-agree n (λ i below. ap₂ is_late (ap (λ (r : Record). r.deadline) (same i below)) (time-same i below)))

-- a table under a choice, and the table whose own fault priorities the choice replaces
module _ (t : Table) (few : t.count ≤ 8) (choice : List ℕ) where
  record-at : (k : ℕ) → k < t.count → record_at (replaced t choice).records k ≡ with_fault (record_at t.records k) (get_or choice k 0)
  unfolding replaced
  record-at = room_at (λ k. with_fault (record_at t.records k) (get_or choice k 0)) t.count few

  records-same : (k : ℕ) → k < t.count → with_fault (record_at (replaced t choice).records k) 0 ≡ with_fault (record_at t.records k) 0
  records-same k below = ap (λ (r : Record). with_fault r 0) (record-at k below)

  faults-same : (k : ℕ) → k < t.count → (own_tasks (replaced t choice)).fault k ≡ get_or choice k 0
  unfolding replaced
  faults-same k below = own_at (replaced t choice) k below few ∙ ap (λ (r : Record). r.fault_priority) (record-at k below)

  pub replaced-time : (place : ℕ) → place < t.count → assured_time (own_tasks (replaced t choice)) place ≡ assured_time (tasks_of t t.interval choice) place
  unfolding replaced
  replaced-time = time-same t.count t.interval t.round t.share (record_at (replaced t choice).records) (record_at t.records) (own_tasks (replaced t choice)).fault (λ k. get_or choice k 0) records-same faults-same

  pub replaced-assured : assured (own_tasks (replaced t choice)) ≡ assured (tasks_of t t.interval choice)
  unfolding replaced
  replaced-assured = assured-same t.count t.interval t.round t.share (record_at (replaced t choice).records) (record_at t.records) (own_tasks (replaced t choice)).fault (λ k. get_or choice k 0) records-same faults-same
