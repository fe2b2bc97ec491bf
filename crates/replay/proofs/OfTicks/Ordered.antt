-- The job that runs and the others that are ready: priorities, backups, own priorities. Assumes nothing.
use Rattle.std.proofs.Common.{◌≡◌, ℕ, ◌+◌, ◌-◌, ◌<◌, ◌≤◌, Bool, true, false, ◌&&◌, eqb, ◌⊎◌, sym, refl, ap, ◌∙◌, ⊎_elim, true≢false, eq-or-lt_of_le, arith, eq-eqb, eqb-true}
use mathlib.Mathlib.Data.Bool.Basic.{eq-false_of_not-eq-true}
use native.Mathlib.Decide.{ℕ_discrete}
use Rattle.places.specs.Places.{some_below, highest_below}
use Rattle.places.proofs.Tells.{both_true}
use Rattle.places.proofs.Some.{some-where, some-found}
use Rattle.places.proofs.Largest.{highest-holds, highest-low}
use Rattle.sheet.specs.declared.Record.{Record}
use Rattle.replay.specs.declared.Cell.{Cell}
use Rattle.replay.specs.Ticks.Cells.{is_ready}
use Rattle.replay.specs.Ticks.Runner.{priority_of, is_at, top_priority, top_backup, runner}
use Rattle.replay.proofs.OfTicks.Chosen.{runner-first, runner-backup, priority-at-most, backup-at-most}

module _ (tasks : ℕ → Record) (cells : ℕ → Cell) where
  -- the priority that the job at a slot runs at
  abbrev pub priority_at : ℕ → ℕ
  priority_at slot = priority_of (tasks slot) slot (cells slot)

  -- "the highest present level .. At one level backups go before first attempts, and of two backups the task with the higher own priority goes first": the job at one slot goes before the one at another
  pub data Before (slot other : ℕ) : Type 0 where
    higher-priority : priority_at other < priority_at slot → Before slot other
    backup-first : priority_at other ≡ priority_at slot → (cells slot).is_backup ≡ true → (cells other).is_backup ≡ false → Before slot other
    higher-task : priority_at other ≡ priority_at slot → (cells slot).is_backup ≡ true → (cells other).is_backup ≡ true → other < slot → Before slot other

  -- the job at a slot is ready, and goes before every other ready one
  pub record GoesFirst (slot : ℕ) : Type 0 where
    pub ready : is_ready (cells slot) ≡ true
    pub before : (other : ℕ) → other < 8 → is_ready (cells other) ≡ true → (other ≡ slot → ⊥) → Before slot other

  at_ready : (priority slot : ℕ) → is_at tasks cells priority slot ≡ true → (is_ready (cells slot) ≡ true) × (priority_at slot ≡ priority)
  unfolding is_at
  at_ready priority slot e =
      let tests = both_true (is_ready (cells slot)) (eqb (priority_at slot) priority) e in
      (tests.0, eqb-true (priority_at slot) priority tests.1)

  ready_at : (slot : ℕ) → is_ready (cells slot) ≡ true → is_at tasks cells (priority_at slot) slot ≡ true
  unfolding is_at
  ready_at slot e = simp (e, eq-eqb (priority_at slot) (priority_at slot) refl)

  -- a first attempt runs at its task's priority
  first-priority : (slot : ℕ) → (cells slot).is_backup ≡ false → priority_at slot ≡ slot + 1
  unfolding priority_of
  first-priority slot e = simp e

  backup-priority : (slot : ℕ) → (cells slot).is_backup ≡ true → priority_at slot ≡ (tasks slot).fault_priority
  unfolding priority_of
  backup-priority slot e = simp e

  -- a ready backup of the highest priority is no higher than the highest
  backup-under : (slot : ℕ) → slot < 8 → is_ready (cells slot) ≡ true → priority_at slot ≡ top_priority tasks cells → (cells slot).is_backup ≡ true → slot + 1 ≤ top_backup tasks cells (top_priority tasks cells)
  unfolding top_backup
  backup-under slot below ready same kind =
      highest-low _ slot 8 below (simp (kind, ap (λ (l : ℕ). is_at tasks cells l slot) (sym same) ∙ ready_at slot ready))

  module _ (priorities : (slot : ℕ) → (tasks slot).fault_priority ≤ 8) where
    priority-small : (slot : ℕ) → slot < 8 → priority_at slot ≤ 8
    priority-small slot below = go (cells slot).is_backup refl
      where
        go : (b : Bool) → (cells slot).is_backup ≡ b → priority_at slot ≤ 8
        go true e = omega (arith, backup-priority slot e, priorities slot)
        go false e = omega (arith, first-priority slot e)

    -- no ready job is above the highest priority
    priority-under : (slot : ℕ) → slot < 8 → is_ready (cells slot) ≡ true → priority_at slot ≤ top_priority tasks cells
    unfolding top_priority
    priority-under slot below ready = go (ℕ_discrete (priority_at slot) 0)
      where
        go : Dec (priority_at slot ≡ 0) → priority_at slot ≤ highest_below (λ under. some_below (is_at tasks cells (under + 1)) 8) 8
        go (yes e) = omega arith
        go (no e) =
            let same : priority_at slot ≡ priority_at slot - 1 + 1 = omega arith in
            let found = some-found (is_at tasks cells (priority_at slot - 1 + 1)) slot 8 below (ap (λ (l : ℕ). is_at tasks cells l slot) (sym same) ∙ ready_at slot ready) in
            omega (arith, priority-small slot below, highest-low (λ under. some_below (is_at tasks cells (under + 1)) 8) (priority_at slot - 1) 8 (omega (arith, priority-small slot below)) found)

    -- where a backup runs
    backup-goes : (slot : ℕ) → top_backup tasks cells (top_priority tasks cells) ≡ slot + 1 → GoesFirst slot
    unfolding top_backup
    backup-goes slot e =
        let found = highest-holds (λ k. (cells k).is_backup && is_at tasks cells (top_priority tasks cells) k) slot 8 e in
        let tests = both_true (cells slot).is_backup (is_at tasks cells (top_priority tasks cells) slot) found.1 in
        let known = at_ready (top_priority tasks cells) slot tests.1 in
        record { ready = known.0; before = λ other below ready different. split other below ready different tests.0 known.1 (cells other).is_backup refl (eq-or-lt_of_le (priority-under other below ready)) }
      where
        split : (other : ℕ) → other < 8 → is_ready (cells other) ≡ true → (other ≡ slot → ⊥) → (cells slot).is_backup ≡ true → priority_at slot ≡ top_priority tasks cells
            → (b : Bool) → (cells other).is_backup ≡ b → (priority_at other ≡ top_priority tasks cells) ⊎ (priority_at other < top_priority tasks cells) → Before slot other
        split other below ready different mine priority true kind w =
            ⊎_elim (λ same. higher-task (same ∙ sym priority) mine kind (omega (arith, different, e, backup-under other below ready same kind))) (λ low. higher-priority (omega arith)) w
        split other below ready different mine priority false kind w = ⊎_elim (λ same. backup-first (same ∙ sym priority) mine kind) (λ low. higher-priority (omega arith)) w

    -- where no backup is at the highest priority, whoever is at it is a first attempt
    first-there : (slot : ℕ) → slot < 8 → is_ready (cells slot) ≡ true → priority_at slot ≡ top_priority tasks cells → top_backup tasks cells (top_priority tasks cells) ≡ 0 → slot + 1 ≡ top_priority tasks cells
    first-there slot below ready same none =
        let kind = eq-false_of_not-eq-true {b = (cells slot).is_backup} (λ b. omega (arith, none, backup-under slot below ready same b)) in
        sym (first-priority slot kind) ∙ same

    first_goes : (slot : ℕ) → top_backup tasks cells (top_priority tasks cells) ≡ 0 → top_priority tasks cells ≡ slot + 1 → GoesFirst slot
    unfolding top_priority
    first_goes slot none e =
        let top = highest-holds (λ under. some_below (is_at tasks cells (under + 1)) 8) slot 8 e in
        let some = some-where (is_at tasks cells (slot + 1)) 8 top.1 in
        let known = at_ready (slot + 1) some.0 some.2 in
        let here : some.0 ≡ slot = omega (arith, e, first-there some.0 some.1 known.0 (known.1 ∙ sym e) none) in
        record {
          ready = ap (λ (k : ℕ). is_ready (cells k)) (sym here) ∙ known.0;
          before = λ other below ready different. ⊎_elim (λ same. absurd (different (omega (arith, e, first-there other below ready same none))))
              (λ low. higher-priority (omega (arith, e, ap priority_at here, known.1))) (eq-or-lt_of_le (priority-under other below ready));
        }

    pub runs-first : (slot : ℕ) → runner tasks cells ≡ slot + 1 → GoesFirst slot
    runs-first slot e = go (ℕ_discrete (top_backup tasks cells (top_priority tasks cells)) 0)
      where
        go : Dec (top_backup tasks cells (top_priority tasks cells) ≡ 0) → GoesFirst slot
        go (yes none) = first_goes slot none (sym (runner-first tasks cells none) ∙ e)
        go (no some) = backup-goes slot (sym (runner-backup tasks cells some) ∙ e)

    pub idle-none : runner tasks cells ≡ 0 → (slot : ℕ) → slot < 8 → is_ready (cells slot) ≡ false
    idle-none e slot below = eq-false_of_not-eq-true {b = is_ready (cells slot)} (λ ready. go ready (ℕ_discrete (top_backup tasks cells (top_priority tasks cells)) 0))
      where
        go : is_ready (cells slot) ≡ true → Dec (top_backup tasks cells (top_priority tasks cells) ≡ 0) → ⊥
        go ready (yes none) =
            let priority : top_priority tasks cells ≡ 0 = sym (runner-first tasks cells none) ∙ e in
            let same : priority_at slot ≡ top_priority tasks cells = omega (arith, priority, priority-under slot below ready) in
            omega (arith, first-there slot below ready same none)
        go ready (no some) = some (sym (runner-backup tasks cells some) ∙ e)

    pub runner-at-most : runner tasks cells ≤ 8
    runner-at-most = go (ℕ_discrete (top_backup tasks cells (top_priority tasks cells)) 0)
      where
        go : Dec (top_backup tasks cells (top_priority tasks cells) ≡ 0) → runner tasks cells ≤ 8
        go (yes none) = omega (arith, runner-first tasks cells none, priority-at-most tasks cells)
        go (no some) = omega (arith, runner-backup tasks cells some, backup-at-most tasks cells (top_priority tasks cells))

    pub none-idle : ((slot : ℕ) → slot < 8 → is_ready (cells slot) ≡ false) → runner tasks cells ≡ 0
    none-idle none = go (ℕ_discrete (runner tasks cells) 0)
      where
        go : Dec (runner tasks cells ≡ 0) → runner tasks cells ≡ 0
        go (yes e) = e
        go (no some) =
            let same : runner tasks cells ≡ runner tasks cells - 1 + 1 = omega arith in
            absurd (true≢false (sym (runs-first (runner tasks cells - 1) same).ready ∙ none (runner tasks cells - 1) (omega (arith, runner-at-most))))
