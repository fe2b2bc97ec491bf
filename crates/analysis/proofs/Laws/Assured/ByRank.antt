-- The assured times of tasks in order: N out of the tasks before a rank and of those after it, and that the times of a good table are those of its columns. Assumes nothing.
use Prim.Native.Nat.{ℕ, ◌+◌, ◌<◌, max}
use mathlib.Core.Path.{◌≡◌, refl, ap₂, ◌∙◌}
use mathlib.Core.Bool.{true, cond, ◌&&◌, ◌||◌, and-false, or-false}
use mathlib.Core.List.{List}
use native.Mathlib.Decide.{ℕ_discrete, dec_lt}
use native.Mathlib.Omega.{arith}
use borrow.Author.Tests.{eq-eqb, ne_eqb, lt-ltb, le-ltb, le-leb, lt-leb}
use lib.Dec.{eqb, leb, ltb}
use Rattle.places.specs.Places.{most_below}
use Rattle.places.proofs.Agree.{most-agree}
use Rattle.places.proofs.Turns.{most-more}
use Rattle.sheet.specs.declared.Table.{Table}
use Rattle.sheet.specs.Rules.{table_refusal}
use Rattle.analysis.specs.Common.Tasks.{Tasks, tasks_of}
use Rattle.analysis.specs.Common.Backups.{backup_of}
use Rattle.analysis.specs.Common.Demand.{largest_before}
use Rattle.analysis.specs.Assured.Equation.{is_over, is_ahead, backup_ahead, assured_equation, asked_assured}
use Rattle.analysis.specs.Assured.Time.{assured_within, assured_time}
use Rattle.analysis.specs.Common.ByRank.{rank_of, ranked, frame_of, ColumnsOf, FaultsOf, InOrder}
use Rattle.analysis.proofs.Laws.Assured.Reordered.{assured-time-held}
use Rattle.analysis.proofs.Laws.Common.Columned.{unfaulted, same-ranked}

-- what each task brings to N
abbrev pub brought_ahead : Tasks → ℕ → ℕ → ℕ
brought_ahead s i k = cond (is_ahead s i k) (s.at k).backup 0

module _ (s : Tasks) (order : InOrder s) (i : ℕ) (low : i < s.count) where
  -- one before it, where its fault priority is no lower
  ahead_before : (k : ℕ) → k < i → brought_ahead s i k ≡ backup_of (s.at k) true (s.fault k) (s.fault i)
  unfolding is_ahead backup_of
  ahead_before k before =
      rw (ne_eqb k i (λ e. omega arith), lt-ltb (s.at i).priority (s.at k).priority (omega (arith, order.priority i low, order.priority k (omega arith)))) (go (dec_lt (s.fault i) (s.fault k)) (ℕ_discrete (s.fault k) (s.fault i)))
    where
      go : Dec (s.fault i < s.fault k) → Dec (s.fault k ≡ s.fault i) → cond (ltb (s.fault i) (s.fault k) || (eqb (s.fault k) (s.fault i) && true)) (s.at k).backup 0 ≡ cond (leb (s.fault i) (s.fault k)) (s.at k).backup 0
      go (yes higher) side = simp (lt-ltb (s.fault i) (s.fault k) higher, le-leb (s.fault i) (s.fault k) (omega arith))
      go (no other) (yes e) = simp (le-ltb (s.fault i) (s.fault k) (omega arith), eq-eqb (s.fault k) (s.fault i) e, le-leb (s.fault i) (s.fault k) (omega arith))
      go (no other) (no apart) = simp (le-ltb (s.fault i) (s.fault k) (omega arith), ne_eqb (s.fault k) (s.fault i) apart, lt-leb (s.fault i) (s.fault k) (omega arith))

  -- one after it, where its fault priority is higher
  pub ahead_after : (k : ℕ) → i < k → k < s.count → brought_ahead s i k ≡ cond (ltb (s.fault i) (s.fault k)) (s.at k).backup 0
  unfolding is_ahead
  ahead_after k after below =
      rw (ne_eqb k i (λ e. omega arith), le-ltb (s.at i).priority (s.at k).priority (omega (arith, order.priority i low, order.priority k below)), and-false (eqb (s.fault k) (s.fault i)), or-false (ltb (s.fault i) (s.fault k))) refl

  -- and its own
  own-ahead : brought_ahead s i i ≡ (s.at i).backup
  unfolding is_ahead
  own-ahead = simp (eq-eqb i i refl)

  -- N of the tasks up to it
  pub ahead_own : most_below (brought_ahead s i) (i + 1) ≡ max (largest_before s i (s.fault i)) (s.at i).backup
  unfolding largest_before
  ahead_own = most-more (brought_ahead s i) i ∙ ap₂ max (most-agree i ahead_before) own-ahead

-- the fault priority of a record's own plays no part
assured-unfaulted : (s : Tasks) (i : ℕ) → assured_time (unfaulted s) i ≡ assured_time s i
unfolding assured_time assured_within assured_equation asked_assured is_over backup_ahead is_ahead
assured-unfaulted s i = refl

-- the assured time of the record at a place, out of the columns, at an interval
pub assured-ranked-at : (t : Table) → table_refusal t ≡ 0 → (columns : List ℕ) → ColumnsOf t columns → (interval : ℕ) (choice faults : List ℕ) → FaultsOf t choice faults → (place : ℕ) → place < t.count
    → assured_time (ranked columns (frame_of t interval) faults) (rank_of t place) ≡ assured_time (tasks_of t interval choice) place
assured-ranked-at t good columns filled interval choice faults beside place below =
    assured-time-held (unfaulted (tasks_of t interval choice)) (ranked columns (frame_of t interval) faults) (rank_of t) (same-ranked t good columns filled interval choice faults beside) place below
    ∙ assured-unfaulted (tasks_of t interval choice) place

-- and at the table's own
pub assured-ranked : (t : Table) → table_refusal t ≡ 0 → (columns : List ℕ) → ColumnsOf t columns → (choice faults : List ℕ) → FaultsOf t choice faults → (place : ℕ) → place < t.count
    → assured_time (ranked columns (frame_of t t.interval) faults) (rank_of t place) ≡ assured_time (tasks_of t t.interval choice) place
assured-ranked t good columns filled = assured-ranked-at t good columns filled t.interval
