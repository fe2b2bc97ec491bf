-- The lowest task: a good table has one and only one; no other lies below it and its fault priority can only be 1, so that its response is the same under every allowed choice. Assumes nothing.
use Prim.Native.Nat.{ℕ, ◌-◌, ◌<◌}
use mathlib.Core.Path.{◌≡◌, refl, sym, ap, ◌∙◌}
use mathlib.Core.Bool.{Bool, true, false, cond, ◌&&◌}
use mathlib.Core.List.{List}
use native.Mathlib.Decide.{ℕ_discrete}
use native.Mathlib.Omega.{arith}
use borrow.Author.Tests.{eq-eqb, ne_eqb, le-leb}
use lib.Dec.{eqb}
use lib.ListN.{get_or}
use Rattle.places.specs.Places.{some_below}
use Rattle.places.proofs.Agree.{most-agree}
use Rattle.places.proofs.Tells.{true-both}
use Rattle.places.proofs.Some.{some-found, some-none}
use Rattle.sheet.specs.declared.Table.{Table}
use Rattle.sheet.specs.Layout.{record_at}
use Rattle.sheet.specs.Rules.{table_refusal}
use Rattle.sheet.proofs.Cases.{good-table}
use Rattle.sheet.proofs.Ranks.{ranked, each-there}
use Rattle.analysis.specs.Common.Tasks.{tasks_of}
use Rattle.analysis.specs.Common.Backups.{everyone, others, backup_of, largest_backup, backup_elsewhere, backup_from_fault}
use Rattle.analysis.specs.Common.Entries.{is_late, own_tasks}
use Rattle.analysis.specs.Published.Response.{response_within, response_time, late}
use Rattle.analysis.specs.Published.Lowest.{Lowest, lowest_late}
use Rattle.analysis.specs.Common.Allowed.{Within}
use Rattle.analysis.proofs.Laws.Published.Below.{response-alike}

module _ (t : Table) (interval : ℕ) (c d : List ℕ) (first : Within t c) (second : Within t d) where
  -- every fault priority is at or above 1, so that the largest backup from there on is the largest of all that are meant
  largest-of-all : (meant : ℕ → Bool) → largest_backup (tasks_of t interval c) meant 1 ≡ largest_backup (tasks_of t interval d) meant 1
  unfolding largest_backup backup_of
  largest-of-all meant =
      most-agree t.count (λ k h. ap (λ (high : Bool). cond (meant k && high) (record_at t.records k).backup 0) (le-leb 1 (get_or c k 0) (first k h).0 ∙ sym (le-leb 1 (get_or d k 0) (second k h).0)))

  -- "The lowest task's response is the same under every choice"
  pub response-lowest : (limit place : ℕ) → place < t.count → (record_at t.records place).priority ≡ 1 → response_within limit (tasks_of t interval c) place ≡ response_within limit (tasks_of t interval d) place
  unfolding backup_elsewhere backup_from_fault
  response-lowest limit place below lowest =
      let one : get_or c place 0 ≡ 1 = omega (arith, first place below) in
      let other : get_or d place 0 ≡ 1 = omega (arith, second place below) in
      response-alike t interval c d limit place (one ∙ sym other)
      (simp lowest (largest-of-all (others place)))
      (simp (one, other) (largest-of-all everyone))

-- late or not, it is so under every allowed choice
pub lowest-late-same : (t : Table) (place : ℕ) → Lowest t place → (c d : List ℕ) → Within t c → Within t d → late (tasks_of t t.interval c) place ≡ late (tasks_of t t.interval d) place
unfolding response_time
lowest-late-same t place at c d first second =
    ap (is_late (record_at t.records place).deadline) (response-lowest t t.interval c d first second 65535 place at.0 at.1)

module _ (t : Table) (good : table_refusal t ≡ 0) where
  -- one record has priority 1
  pub lowest-there : (place : ℕ) × Lowest t place
  lowest-there =
      let table = good-table t good in
      let at = each-there t.count (record_at t.records) table.records 1 (omega arith) table.count.0 in
      (at.0, (at.1, at.2))

  -- and only one, since no record has the priority of another
  pub lowest-once : (j k : ℕ) → Lowest t j → Lowest t k → j ≡ k
  lowest-once j k first second = (ranked t.count (record_at t.records) (good-table t good).records).apart j k first.0 second.0 (ap (λ (p : ℕ). t.count - p) (first.1 ∙ sym second.1))

  -- the test tells whether that record is late
  pub lowest-tested : (place : ℕ) → Lowest t place → lowest_late t ≡ late (own_tasks t) place
  unfolding lowest_late
  lowest-tested place at = go (late (own_tasks t) place) refl
    where
      other : late (own_tasks t) place ≡ false → (k : ℕ) → k < t.count → Dec ((record_at t.records k).priority ≡ 1) → (eqb (record_at t.records k).priority 1 && late (own_tasks t) k) ≡ false
      other e k below (yes one) = rw (lowest-once k place (below, one) at, e, eq-eqb _ 1 at.1) refl
      other e k below (no some) = rw (ne_eqb _ 1 some) refl

      go : (b : Bool) → late (own_tasks t) place ≡ b → some_below (λ k. eqb (record_at t.records k).priority 1 && late (own_tasks t) k) t.count ≡ b
      go true e = some-found (λ k. eqb (record_at t.records k).priority 1 && late (own_tasks t) k) place t.count at.0 (true-both _ _ (eq-eqb _ 1 at.1) e)
      go false e = some-none (λ k. eqb (record_at t.records k).priority 1 && late (own_tasks t) k) t.count (λ k below. other e k below (ℕ_discrete (record_at t.records k).priority 1))
