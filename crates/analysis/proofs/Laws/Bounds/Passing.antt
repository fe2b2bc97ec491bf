-- A choice stays within the bounds of a good table for the published equations exactly if it passes; and where a record misses its own backup none does. Assumes nothing.
use Prim.Native.Nat.{ℕ, ◌+◌, ◌-◌, ◌*◌, ◌≤◌, ◌<◌}
use mathlib.Core.Path.{◌≡◌, refl, sym, ap, ap₂, subst, ◌∙◌}
use mathlib.Core.Bool.{Bool, true, false, true≢false, cond, not, ◌&&◌, ◌||◌, or-true}
use mathlib.Core.List.{List, []}
use native.Mathlib.Nat.{mul-le-mul_left}
use native.Mathlib.Decide.{dec_lt}
use native.Mathlib.Omega.{arith}
use borrow.Author.Tests.{ne_eqb, le-leb, lt-ltb, le-ltb}
use lib.Dec.{leb, ltb}
use lib.ListN.{get_or, replicate}
use Rattle.places.proofs.Agree.{most-agree}
use Rattle.places.proofs.Some.{some-found, some-where}
use Rattle.places.proofs.Summed.{sum-rises}
use Rattle.places.proofs.Largest.{most-part}
use Rattle.places.proofs.Filled.{filled_at}
use Rattle.sheet.specs.declared.Table.{Table}
use Rattle.sheet.specs.Layout.{record_at}
use Rattle.sheet.specs.Rules.{table_refusal}
use Rattle.sheet.proofs.Cases.{good-table, good-at}
use Rattle.analysis.specs.Published.Equations.{is_between, asked_elsewhere, asked_itself, struck_elsewhere, struck_itself}
use Rattle.analysis.specs.declared.Rule.TheVariants.{Published}
use Rattle.analysis.specs.Common.Rounding.{up}
use Rattle.analysis.specs.Common.Tasks.{Tasks, tasks_of}
use Rattle.analysis.specs.Common.Backups.{others, everyone, backup_of, largest_backup, backup_elsewhere, backup_from_fault}
use Rattle.analysis.specs.Published.Response.{time_elsewhere, time_itself, late, passes}
use Rattle.analysis.specs.Common.Search.{least_within}
use Rattle.analysis.specs.Common.Entries.{is_late}
use Rattle.analysis.specs.Common.Columns.{priorities_of, backups_of}
use Rattle.analysis.specs.Common.Allowed.{Within}
use Rattle.analysis.specs.Bounds.Limits.{asked_with, asked_by, bears}
use Rattle.analysis.specs.Bounds.Found.{found_bounds}
use Rattle.analysis.specs.Bounds.Hopeless.{own_missed, hopeless}
use Rattle.analysis.specs.Bounds.Within.{largest_of, below, below_limits, within_at, within_bounds}
use Rattle.analysis.proofs.Laws.Common.Choice.{priority-at}
use Rattle.analysis.proofs.Laws.Bounds.Borne.{bears-easier, borne-below, limit-kept, limit_for, within-each}
use Rattle.analysis.proofs.Laws.Published.Larger.{late-either}

-- the equations are those with any M and N, with the M and N of the fault priorities
module _ (limit : ℕ) (t : Table) (interval : ℕ) (faults : List ℕ) (i : ℕ) where
  elsewhere-asked : time_elsewhere limit (tasks_of t interval faults) i ≡ least_within (asked_elsewhere (tasks_of t interval []) i (backup_elsewhere (tasks_of t interval faults) i)) 1 limit
  unfolding time_elsewhere struck_elsewhere asked_elsewhere
  elsewhere-asked = refl

  itself-asked : time_itself limit (tasks_of t interval faults) i ≡ least_within (asked_itself (tasks_of t interval []) i (get_or faults i 0) (backup_from_fault (tasks_of t interval faults) i)) 1 limit
  unfolding time_itself struck_itself asked_itself is_between
  itself-asked = refl

-- a record that runs at its own priority has no tasks between, so that a lower fault priority and a larger backup ask no less
own-least : (s : Tasks) (i q small large : ℕ) → 1 ≤ q → q ≤ (s.at i).priority → small ≤ large → (L : ℕ) → 1 ≤ L → asked_by Published s i (s.at i).priority small L ≤ asked_by Published s i q large L
unfolding asked_by asked_with asked_itself is_between
own-least s i q small large some low less L long =
    rw (ne_eqb q 0 (λ z. omega arith), ne_eqb (s.at i).priority 0 (λ z. omega arith)) (omega (arith, mul-le-mul_left (up L s.interval - 1) less, sum-rises s.count (λ k below. fewer k)))
  where
    job : ℕ → ℕ
    job k = (1 + up L (s.at k).period) * (s.at k).cost

    fewer : (k : ℕ) → cond (ltb (s.at i).priority (s.at k).priority && ltb (s.at k).priority (s.at i).priority) (job k) 0
        ≤ cond (ltb q (s.at k).priority && ltb (s.at k).priority (s.at i).priority) (job k) 0
    fewer k = go (dec_lt (s.at i).priority (s.at k).priority)
      where
        go : Dec ((s.at i).priority < (s.at k).priority) → cond (ltb (s.at i).priority (s.at k).priority && ltb (s.at k).priority (s.at i).priority) (job k) 0
            ≤ cond (ltb q (s.at k).priority && ltb (s.at k).priority (s.at i).priority) (job k) 0
        go (yes h) = rw (lt-ltb (s.at i).priority (s.at k).priority h, le-ltb (s.at k).priority (s.at i).priority (omega arith)) (omega arith)
        go (no h) = rw (le-ltb (s.at i).priority (s.at k).priority (omega arith)) (omega arith)

bears-own : (s : Tasks) (i q small large : ℕ) → 1 ≤ q → q ≤ (s.at i).priority → small ≤ large → bears Published s i q large ≡ true → bears Published s i (s.at i).priority small ≡ true
bears-own s i q small large some low less = bears-easier Published Published s i (s.at i).priority q small large (own-least s i q small large some low less)

-- the bounds of a good table, and a choice that it has
module _ (t : Table) (good : table_refusal t ≡ 0) where
  -- the tasks that the bounds are found for, and those of the choice
  abbrev plain : Tasks
  plain = tasks_of t t.interval []

  abbrev backup_at : ℕ → ℕ
  backup_at k = (record_at t.records k).backup

  module _ (choice : List ℕ) where
    abbrev chosen : Tasks
    chosen = tasks_of t t.interval choice

    -- M and N of the choice, out of the backups kept
    largest-kept : (meant : ℕ → Bool) (priority : ℕ) → largest_of (backups_of t) choice meant priority t.count ≡ largest_backup chosen meant priority
    unfolding largest_of largest_backup backup_of backups_of
    largest-kept meant priority =
        most-agree t.count (λ k below. ap (λ (b : ℕ). cond (meant k && leb priority (get_or choice k 0)) b 0) (filled_at backup_at t.count (replicate 8 0) 0 (good-table t good).count.1 k below))

    below-limit : (place q : ℕ) (meant : ℕ → Bool) (priority : ℕ) → ltb (largest_backup chosen meant priority) (limit_for t good Published place q) ≡ bears Published plain place q (largest_backup chosen meant priority)
    unfolding largest_backup backup_of
    below-limit place q meant priority = borne-below t good Published place q (λ k. meant k && leb priority (get_or choice k 0))

    module _ (allowed : Within t choice) (place : ℕ) (below : place < t.count) where
      bears-elsewhere : bears Published plain place 0 (backup_elsewhere chosen place) ≡ not (is_late (record_at t.records place).deadline (time_elsewhere 65535 chosen place))
      unfolding bears asked_by asked_with
      bears-elsewhere = ap (λ (n : ℕ). not (is_late (record_at t.records place).deadline n)) (sym (elsewhere-asked 65535 t t.interval choice place))

      bears-itself : bears Published plain place (get_or choice place 0) (backup_from_fault chosen place) ≡ not (is_late (record_at t.records place).deadline (time_itself 65535 chosen place))
      unfolding bears asked_by asked_with
      bears-itself =
          let some = (allowed place below).0 in
          simp (ne_eqb (get_or choice place 0) 0 (λ z. omega arith)) (ap (λ (n : ℕ). not (is_late (record_at t.records place).deadline n)) (sym (itself-asked 65535 t t.interval choice place)))

      -- one that misses its own backup is late: N is no smaller than that
      own-late : own_missed plain place ≡ true → late chosen place ≡ true
      unfolding own_missed backup_from_fault largest_backup backup_of everyone
      own-late missed = late-either chosen place ∙ go (is_late (record_at t.records place).deadline (time_itself 65535 chosen place)) refl
        where
          reached : backup_at place ≤ backup_from_fault chosen place
          reached = subst (λ (n : ℕ). n ≤ backup_from_fault chosen place) (simp (le-leb (get_or choice place 0) (get_or choice place 0) (omega arith))) (most-part (λ k. cond (leb (get_or choice place 0) (get_or choice k 0)) (backup_at k) 0) t.count place below)

          go : (b : Bool) → is_late (record_at t.records place).deadline (time_itself 65535 chosen place) ≡ b → (is_late (record_at t.records place).deadline (time_elsewhere 65535 chosen place) || b) ≡ true
          go true is = or-true (is_late (record_at t.records place).deadline (time_elsewhere 65535 chosen place))
          go false is =
              let borne-too = bears-own plain place (get_or choice place 0) (backup_at place) (backup_from_fault chosen place) (allowed place below).0 (allowed place below).1 reached (bears-itself ∙ ap not is) in
              absurd (true≢false (sym missed ∙ ap not borne-too))

      -- its N and its M under the choice are below its limits exactly if it is on time struck itself, and struck elsewhere
      itself-below : ltb (largest_of (backups_of t) choice everyone (get_or choice place 0) t.count) (get_or (found_bounds Published t).limits (9 * place + get_or choice place 0) 0)
          ≡ not (is_late (record_at t.records place).deadline (time_itself 65535 chosen place))
      unfolding backup_from_fault
      itself-below =
          ap₂ ltb (largest-kept everyone (get_or choice place 0)) (limit-kept t good Published place (get_or choice place 0) below (allowed place below).1)
          ∙ below-limit place (get_or choice place 0) everyone (get_or choice place 0)
          ∙ bears-itself

      elsewhere-below : ltb (largest_of (backups_of t) choice (others place) (get_or (priorities_of t) place 0) t.count) (get_or (found_bounds Published t).limits (9 * place) 0)
          ≡ not (is_late (record_at t.records place).deadline (time_elsewhere 65535 chosen place))
      unfolding backup_elsewhere
      elsewhere-below =
          let priority = priority-at t (good-table t good).count.1 place below in
          let index : 9 * place ≡ 9 * place + 0 = omega arith in
          ap₂ ltb (ap (λ (p : ℕ). largest_of (backups_of t) choice (others place) p t.count) priority ∙ largest-kept (others place) (record_at t.records place).priority)
          (ap (λ (k : ℕ). get_or (found_bounds Published t).limits k 0) index ∙ limit-kept t good Published place 0 below (omega arith))
          ∙ below-limit place 0 (others place) (record_at t.records place).priority
          ∙ bears-elsewhere

      pub within-late : not (within_at Published (found_bounds Published t) choice place) ≡ late chosen place
      unfolding within_at below_limits below found_bounds
      within-late =
          let high = (good-at t.count (record_at t.records) (good-table t good).records place below).priority.1 in
          let few = (good-table t good).count.1 in
          let narrow = le-leb (get_or choice place 0) 8 (omega (arith, (allowed place below).1)) in
          ap not (ap₂ ◌&&◌ narrow (ap₂ ◌&&◌ itself-below elsewhere-below))
          ∙ neither-late (is_late (record_at t.records place).deadline (time_itself 65535 chosen place)) (is_late (record_at t.records place).deadline (time_elsewhere 65535 chosen place))
          ∙ sym (late-either chosen place)
        where
          neither-late : (a b : Bool) → not (not a && not b) ≡ (b || a)
          neither-late true true = refl
          neither-late true false = refl
          neither-late false true = refl
          neither-late false false = refl

  -- under the published equations that is exactly if it passes
  pub within-passes : (choice : List ℕ) → Within t choice → within_bounds Published (found_bounds Published t) choice ≡ passes (tasks_of t t.interval choice)
  unfolding passes
  within-passes choice allowed = within-each t good Published choice (late (tasks_of t t.interval choice)) (within-late choice allowed)

  -- where some record misses its own backup no choice passes
  pub hopeless-fails : (choice : List ℕ) → Within t choice → hopeless t ≡ true → passes (tasks_of t t.interval choice) ≡ false
  unfolding passes hopeless
  hopeless-fails choice allowed some =
      let found = some-where (own_missed plain) t.count some in
      ap not (some-found (late (tasks_of t t.interval choice)) found.0 t.count found.1 (own-late choice allowed found.0 found.1 found.2))
