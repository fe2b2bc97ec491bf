-- The assured time of a record under a choice: how it is asked with any backup, and that it is the response time where the fault priority is the priority. Assumes nothing.
use Prim.Native.Nat.{ℕ, ◌-◌, ◌≤◌, ◌<◌}
use mathlib.Core.Path.{◌≡◌, refl, ap, ap₂, ◌∙◌}
use mathlib.Core.Bool.{Bool, true, false, cond, ◌&&◌, ◌||◌}
use mathlib.Core.List.{List, []}
use native.Mathlib.Decide.{dec_lt}
use native.Mathlib.Omega.{arith}
use borrow.Author.Tests.{ne_eqb, le-leb, le-ltb}
use lib.Dec.{eqb, leb, ltb}
use lib.ListN.{get_or, replicate}
use Rattle.places.proofs.Agree.{most-agree}
use Rattle.places.proofs.Largest.{most-within, most-part}
use Rattle.places.proofs.Filled.{filled_at}
use Rattle.sheet.specs.declared.Table.{Table}
use Rattle.sheet.specs.Layout.{record_at}
use Rattle.sheet.specs.Rules.{table_refusal}
use Rattle.sheet.proofs.Cases.{good-table}
use Rattle.sheet.proofs.Ranks.{ranked}
use Rattle.analysis.specs.Common.Tasks.{Tasks, tasks_of}
use Rattle.analysis.specs.Common.Search.{least_within}
use Rattle.analysis.specs.Published.Response.{response_time, late}
use Rattle.analysis.specs.Common.Entries.{is_late}
use Rattle.analysis.specs.Assured.Equation.{is_over, is_ahead, backup_ahead, assured_equation, asked_assured}
use Rattle.analysis.specs.Assured.Time.{assured_within, assured_time, unassured}
use Rattle.analysis.specs.Common.Columns.{priorities_of, backups_of}
use Rattle.analysis.specs.Common.Allowed.{Within}
use Rattle.analysis.specs.Bounds.Within.{largest_of}
use Rattle.analysis.specs.Assured.Ahead.{largest_ahead}
use Rattle.analysis.proofs.Laws.Common.Choice.{priority-at}
use Rattle.analysis.proofs.Laws.Assured.Raised.{assured-response}

-- whether a record is among those ahead
abbrev ahead_in : List ℕ → List ℕ → ℕ → ℕ → Bool
ahead_in priorities choice place k =
    eqb k place || (ltb (get_or choice place 0) (get_or choice k 0) || (eqb (get_or choice k 0) (get_or choice place 0) && ltb (get_or priorities place 0) (get_or priorities k 0)))

-- the largest backup of those ahead is no larger than that of all at or above the fault priority
pub ahead-fewer : (backups priorities choice : List ℕ) (place n : ℕ) → largest_ahead backups priorities choice place n ≤ largest_of backups choice (λ k. true) (get_or choice place 0) n
unfolding largest_ahead largest_of
ahead-fewer backups priorities choice place n = most-within _ n _ (λ k below. omega (arith, part k, most-part all n k below))
  where
    all : ℕ → ℕ
    all k = cond (leb (get_or choice place 0) (get_or choice k 0)) (get_or backups k 0) 0

    part : (k : ℕ) → cond (ahead_in priorities choice place k) (get_or backups k 0) 0 ≤ all k
    part k = go (dec_lt (get_or choice k 0) (get_or choice place 0))
      where
        pick : (b : Bool) → cond b (get_or backups k 0) 0 ≤ get_or backups k 0
        pick true = omega arith
        pick false = omega arith

        go : Dec (get_or choice k 0 < get_or choice place 0) → cond (ahead_in priorities choice place k) (get_or backups k 0) 0 ≤ all k
        go (no high) = simp (le-leb (get_or choice place 0) (get_or choice k 0) (omega arith)) (pick (ahead_in priorities choice place k))
        go (yes below) =
            rw (ne_eqb k place (λ e. omega (arith, ap (λ (j : ℕ). get_or choice j 0) e)), le-ltb (get_or choice place 0) (get_or choice k 0) (omega arith), ne_eqb (get_or choice k 0) (get_or choice place 0) (λ e. omega arith))
            (omega arith)

-- N of the choice, out of the backups and priorities kept
pub ahead-kept : (t : Table) → table_refusal t ≡ 0 → (choice : List ℕ) (place : ℕ) → place < t.count → largest_ahead (backups_of t) (priorities_of t) choice place t.count ≡ backup_ahead (tasks_of t t.interval choice) place
unfolding largest_ahead backup_ahead is_ahead backups_of
ahead-kept t good choice place below =
    let few = (good-table t good).count.1 in
    most-agree t.count (λ k h.
    ap₂ (λ (p r : ℕ). cond (eqb k place || (ltb (get_or choice place 0) (get_or choice k 0) || (eqb (get_or choice k 0) (get_or choice place 0) && ltb p r))) (get_or (backups_of t) k 0) 0) (priority-at t few place below) (priority-at t few k h)
    ∙ ap (λ (b : ℕ). cond (is_ahead (tasks_of t t.interval choice) place k) b 0) (filled_at (λ j. (record_at t.records j).backup) t.count (replicate 8 0) 0 few k h))

module _ (t : Table) (good : table_refusal t ≡ 0) (choice : List ℕ) (allowed : Within t choice) where
  abbrev plain : Tasks
  plain = tasks_of t t.interval []

  abbrev chosen : Tasks
  chosen = tasks_of t t.interval choice

  module _ (place : ℕ) (below : place < t.count) where
    -- the equation is that with this N
    pub assured-time-asked : assured_time chosen place ≡ least_within (asked_assured plain place (get_or choice place 0) (backup_ahead chosen place)) 1 65535
    unfolding assured_time assured_within assured_equation asked_assured is_over
    assured-time-asked = refl

    -- one whose fault priority is its priority has one exactly if it is not late
    pub raised-unassured : get_or choice place 0 ≡ (record_at t.records place).priority → unassured chosen place ≡ late chosen place
    unfolding assured_time response_time
    raised-unassured raised =
        let often : 1 ≤ t.interval = let some = (good-table t good).interval in omega arith in
        ap (is_late (record_at t.records place).deadline)
        (assured-response chosen place below often raised (λ k h. (allowed k h).1)
        (λ k h same. (ranked t.count (record_at t.records) (good-table t good).records).apart k place h below (ap (λ (p : ℕ). t.count - p) same)) 65535)
