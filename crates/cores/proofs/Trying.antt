-- A core's table by value: it is good where the sheet's is, so that it is never refused, and passes exactly if the core's tasks do. Assumes nothing.
use Prim.Native.Nat.{ℕ, suc, ◌-◌, ◌≤◌, ◌<◌}
use mathlib.Core.Path.{◌≡◌, refl, sym, ap, ap₂, subst, ◌∙◌}
use mathlib.Core.Bool.{Bool, false, ◌||◌}
use native.Mathlib.Omega.{arith}
use borrow.Author.Tests.{eq-eqb, ne_eqb}
use lib.Dec.{eqb}
use lib.ListN.{get_or}
use Rattle.places.proofs.Some.{some-none}
use Rattle.places.proofs.Refusals.{first-clear}
use Rattle.sheet.specs.declared.Record.{Record}
use Rattle.sheet.specs.declared.Table.{Table}
use Rattle.sheet.specs.Layout.{record_at, edition_for}
use Rattle.sheet.specs.Rules.{wrong_share, taken, record_refusal, records_refusal, table_refusal}
use Rattle.sheet.proofs.Agree.{records-agree}
use Rattle.sheet.proofs.Cases.{Good, good-table, good-at, table-records, outside-within, record-good}
use Rattle.sheet.proofs.Ranks.{ranked}
use Rattle.analysis.specs.Common.Tasks.{Tasks, own_choice}
use Rattle.analysis.specs.Published.Response.{passes}
use Rattle.analysis.specs.Common.Entries.{own_tasks}
use Rattle.analysis.specs.Published.Answers.{own_assessment}
use Rattle.analysis.proofs.Laws.Common.Choice.{own_at, own-refusal}
use Rattle.analysis.proofs.Refused.{assessed-verdict, own-refused}
use Rattle.analysis.proofs.Laws.Published.Reordered.{passes-held}
use Rattle.cores.specs.Renumbered as renumbering
use Rattle.cores.specs.Renumbered.{core_tasks, tasks_at, picked}
use Rattle.cores.specs.FirstFit.{joins, still_pass}
use Rattle.cores.specs.Tried.{Holds, Tried}
use Rattle.cores.proofs.Picking.{picks, many-few}
use Rattle.cores.proofs.Renumbering.{Distinct, priorities-within, priorities-apart}

-- no two records of a good table have the same priority
pub distinct : (t : Table) → table_refusal t ≡ 0 → (n : ℕ) → n ≤ t.count → Distinct (record_at t.records) n
distinct t good n few j k low-j low-k e =
    (ranked t.count (record_at t.records) (good-table t good).records).apart j k (omega arith) (omega arith) (ap (λ (p : ℕ). t.count - p) e)

-- a table that holds some tasks passes exactly if they do
pub holds-passes : (s : Tasks) (t : Table) → Holds s t → t.count ≤ 8 → ((j : ℕ) → j < s.count → (s.at j).fault_priority ≡ s.fault j) → passes (own_tasks t) ≡ passes s
holds-passes s t holds few raised =
    passes-held s (own_tasks t) (λ j. j)
    (record {
      count = holds.count;
      interval = holds.interval;
      round = holds.round;
      share = holds.share;
      numbered = record { within = λ k low. low; apart = λ j k low-j low-k e. e };
      task = holds.task;
      fault = λ j low. own_at t j (omega (arith, holds.count)) few ∙ ap (λ (r : Record). r.fault_priority) (holds.task j low) ∙ raised j low;
    })

-- the verdict on a good table is whether its tasks pass
pub verdict-passes : (t : Table) → table_refusal t ≡ 0 → (own_assessment t).passes ≡ passes (own_tasks t)
unfolding own_assessment
verdict-passes t good = (assessed-verdict t (own_choice t) (own-refusal t ∙ good)).1

-- A good table's records below n that a test holds at, at least one
module _ (t : Table) (good : table_refusal t ≡ 0) (test : ℕ → Bool) (n : ℕ) (few : n ≤ t.count) where
  abbrev core : Tasks
  core = core_tasks (own_tasks t) test n

  abbrev place_of : ℕ → ℕ
  place_of j = get_or (picked test n) j 0

  task-good : (j : ℕ) → j < core.count → Good t.count (taken (record_at t.records) (place_of j) (record_at t.records (place_of j)).priority) (record_at t.records (place_of j))
  unfolding core_tasks tasks_at
  task-good j low = good-at t.count (record_at t.records) (good-table t good).records (place_of j) (omega (arith, ((picks test n).holds j low).0))

  -- no earlier record of the core has the priority
  fresh : (j : ℕ) → j < core.count → taken core.at j (core.at j).priority ≡ false
  unfolding taken
  fresh j low =
      some-none (λ earlier. eqb (core.at earlier).priority (core.at j).priority) j
      (λ k h. ne_eqb _ _ (λ e. let same = priorities-apart (own_tasks t) test n (distinct t good n few) k j (omega arith) low e in omega arith))

  task-passed : (j : ℕ) → j < core.count → record_refusal core.count core.at j ≡ 0
  unfolding record_refusal core_tasks tasks_at renumbering.renumbered
  task-passed j low =
      let known = task-good j low in
      let number = priorities-within (own_tasks t) test n (distinct t good n few) j low in
      sym
      (record-good core.count (taken core.at j (core.at j).priority) (core.at j) (outside-within _ _ known.cost) (outside-within _ _ known.backup) known.deadline (outside-within _ _ number) (fresh j low)
      (outside-within _ _ (number.0, omega arith)))

  -- the core has at most eight records
  pub core-few : core.count ≤ 8
  unfolding core_tasks tasks_at
  core-few = omega (arith, (picks test n).many, many-few test n, (good-table t good).count.1)

  -- a table that holds them is good
  pub core-good : 1 ≤ core.count → (tried : Table) → Holds core tried → table_refusal tried ≡ 0
  unfolding records_refusal core_tasks tasks_at
  core-good some tried holds =
      let known = good-table t good in
      sym (table-records tried (outside-within _ 8 (subst (λ (m : ℕ). (1 ≤ m) × (m ≤ 8)) (sym holds.count) (some, core-few))) (λ e. known.interval (sym holds.interval ∙ e))
      (ap₂ (λ (round share : ℕ). wrong_share (edition_for round share) round share) holds.round holds.share ∙ known.share))
      ∙ ap (λ (m : ℕ). records_refusal m (record_at tried.records)) holds.count
      ∙ records-agree core.count holds.task
      ∙ first-clear (record_refusal core.count core.at) core.count task-passed

  -- and passes exactly if they do
  pub core-passes : (tried : Table) → Holds core tried → passes (own_tasks tried) ≡ passes core
  unfolding core_tasks tasks_at renumbering.renumbered
  core-passes tried holds = holds-passes core tried holds (subst (λ (m : ℕ). m ≤ 8) (sym holds.count) core-few) (λ j low. refl)

-- The core that a record is tried on
module _ (t : Table) (good : table_refusal t ≡ 0) (cores : ℕ → ℕ) (place core : ℕ) (below : place < t.count) where
  -- has that record
  tried-some : 1 ≤ (core_tasks (own_tasks t) (joins cores place core) (suc place)).count
  unfolding core_tasks tasks_at joins
  tried-some =
      let found = (picks (joins cores place core) (suc place)).found place (omega arith) (ap (λ (b : Bool). b || eqb (cores place) core) (eq-eqb place place refl)) in
      omega (arith, found.1)

  -- so its table is not refused
  pub tried-fine : (tried : Table) → Tried t cores place core tried → (own_assessment tried).refusal ≡ 0
  tried-fine tried holds = own-refused tried ∙ core-good t good (joins cores place core) (suc place) below tried-some tried holds

  -- and the verdict on it is whether its tasks still pass
  pub tried-passes : (tried : Table) → Tried t cores place core tried → (own_assessment tried).passes ≡ still_pass (own_tasks t) cores place core
  unfolding still_pass
  tried-passes tried holds =
      verdict-passes tried (core-good t good (joins cores place core) (suc place) below tried-some tried holds) ∙ core-passes t good (joins cores place core) (suc place) below tried holds
