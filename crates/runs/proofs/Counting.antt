-- Which jobs count for the task at a place i: those that the machine runs before a backup of i, and i's own. Assumes nothing.
use Prim.Native.Nat.{ℕ, ◌+◌, ◌≤◌, ◌<◌}
use mathlib.Core.Path.{◌≡◌, refl, sym, ap, ◌∙◌}
use mathlib.Core.Bool.{Bool, true, false, ◌&&◌, ◌||◌, true≢false}
use mathlib.Core.Logic.{◌⊎◌, inl, inr}
use native.Mathlib.Decide.{ℕ_discrete}
use native.Mathlib.Omega.{arith}
use lib.Dec.{eqb, ltb}
use Rattle.places.proofs.Tells.{Tells, tells-iff, or-tells, and-tells, eqb_tells, ltb-tells, shown, tests, told}
use Rattle.sheet.specs.declared.Record.{Record}
use Rattle.replay.specs.declared.Cell.{Cell}
use Rattle.replay.specs.Ticks.Runner.{priority_of}
use Rattle.replay.specs.Ticks.Step.{worked, struck, ended}
use Rattle.replay.proofs.OfTicks.Ordered.{Before, higher-priority, backup-first, higher-task}

module _ (tasks : ℕ → Record) (i : ℕ) where
  -- the job of a cell at a place counts
  unfoldable pub counts : ℕ → Cell → Bool
  counts place cell =
      eqb place i || (ltb (tasks i).fault_priority (priority_of (tasks place) place cell)
      || (cell.is_backup && (eqb (priority_of (tasks place) place cell) (tasks i).fault_priority && ltb i place)))

  -- why it does
  pub data Counts (place : ℕ) (cell : Cell) : Type 0 where
    own : place ≡ i → Counts place cell
    higher : (tasks i).fault_priority < priority_of (tasks place) place cell → Counts place cell
    beside : cell.is_backup ≡ true → priority_of (tasks place) place cell ≡ (tasks i).fault_priority → i < place → Counts place cell

  counts-tells : (place : ℕ) (cell : Cell) → Tells (Counts place cell) (counts place cell)
  unfolding counts
  counts-tells place cell =
      tells-iff into out
      (or-tells (eqb_tells place i) (or-tells (ltb-tells (tasks i).fault_priority (priority_of (tasks place) place cell))
      (and-tells (tests cell.is_backup) (and-tells (eqb_tells (priority_of (tasks place) place cell) (tasks i).fault_priority) (ltb-tells i place)))))
    where
      into : (place ≡ i) ⊎ (((tasks i).fault_priority < priority_of (tasks place) place cell) ⊎ ((cell.is_backup ≡ true) × ((priority_of (tasks place) place cell ≡ (tasks i).fault_priority) × (i < place)))) → Counts place cell
      into (inl e) = own e
      into (inr (inl h)) = higher h
      into (inr (inr w)) = beside w.0 w.1.0 w.1.1

      out : Counts place cell → (place ≡ i) ⊎ (((tasks i).fault_priority < priority_of (tasks place) place cell) ⊎ ((cell.is_backup ≡ true) × ((priority_of (tasks place) place cell ≡ (tasks i).fault_priority) × (i < place))))
      out (own e) = inl e
      out (higher h) = inr (inl h)
      out (beside b e l) = inr (inr (b, (e, l)))

  pub counts-why : (place : ℕ) (cell : Cell) → counts place cell ≡ true → Counts place cell
  counts-why place cell = told (counts-tells place cell)

  pub counts-so : {place : ℕ} {cell : Cell} → Counts place cell → counts place cell ≡ true
  counts-so {place} {cell} why = shown (counts-tells place cell) why

  -- work, and the end of a tick, leave whether a job counts
  pub counts-worked : (place : ℕ) (cell : Cell) → counts place (worked cell) ≡ counts place cell
  unfolding counts priority_of
  counts-worked place cell = refl

  pub counts-ended : (place : ℕ) (cell : Cell) → counts place (ended cell) ≡ counts place cell
  unfolding counts priority_of ended
  counts-ended place cell = refl

  -- the task's own job counts
  pub counts-own : (cell : Cell) → counts i cell ≡ true
  counts-own cell = counts-so (own refl)

  module _ (lowered : (place : ℕ) → place < 8 → (tasks place).fault_priority ≤ place + 1) where
    -- where a struck job counts, so did it before
    pub counts-before : (place : ℕ) → place < 8 → (cell job : Cell) → counts place (struck (tasks place) job) ≡ true → counts place cell ≡ true
    unfolding priority_of
    counts-before place below cell job e = go cell.is_backup refl (counts-why place (struck (tasks place) job) e)
      where
        go : (b : Bool) → cell.is_backup ≡ b → Counts place (struck (tasks place) job) → counts place cell ≡ true
        go b kind (own e) = counts-so (own e)
        go true kind (higher h) = counts-so (higher (rw kind h))
        go true kind (beside one e l) = counts-so (beside kind (rw kind e) l)
        go false kind (higher h) = counts-so (higher (rw kind (omega (arith, lowered place below))))
        go false kind (beside one e l) = counts-so (higher (rw kind (omega (arith, lowered i (omega arith)))))

    module _ (cells : ℕ → Cell) where
      abbrev priority : ℕ → ℕ
      priority place = priority_of (tasks place) place (cells place)

      first-priority : (place : ℕ) → (cells place).is_backup ≡ false → priority place ≡ place + 1
      unfolding priority_of
      first-priority place kind = simp kind

      backup-priority : (place : ℕ) → (cells place).is_backup ≡ true → priority place ≡ (tasks place).fault_priority
      unfolding priority_of
      backup-priority place kind = simp kind

      -- the priority of a job is no lower than its task's fault priority
      priority-least : (place : ℕ) → place < 8 → (tasks place).fault_priority ≤ priority place
      priority-least place below = go (cells place).is_backup refl
        where
          go : (b : Bool) → (cells place).is_backup ≡ b → (tasks place).fault_priority ≤ priority place
          go true kind = omega (arith, backup-priority place kind)
          go false kind = omega (arith, first-priority place kind, lowered place below)

      -- a job that goes before one that counts, counts
      pub counts-ahead : (place other : ℕ) → place < 8 → other < 8 → Before tasks cells place other → counts other (cells other) ≡ true → counts place (cells place) ≡ true
      counts-ahead place other below low before e = go before (counts-why other (cells other) e)
        where
          go : Before tasks cells place other → Counts other (cells other) → counts place (cells place) ≡ true
          go (higher-priority h) (own e) = counts-so (higher (omega (arith, priority-least other low, ap (λ (k : ℕ). (tasks k).fault_priority) e)))
          go (higher-priority h) (higher l) = counts-so (higher (omega arith))
          go (higher-priority h) (beside one l r) = counts-so (higher (omega arith))
          go (backup-first same mine kind) (own e) = split (ℕ_discrete place i) (ℕ_discrete (tasks i).fault_priority (i + 1))
            where
              split : Dec (place ≡ i) → Dec ((tasks i).fault_priority ≡ i + 1) → counts place (cells place) ≡ true
              split (yes here) d = counts-so (own here)
              split (no apart) (yes top) =
                  counts-so (beside mine (omega (arith, first-priority other kind)) (omega (arith, first-priority other kind, backup-priority place mine, lowered place below)))
              split (no apart) (no less) = counts-so (higher (omega (arith, first-priority other kind, lowered other low, ap (λ (k : ℕ). (tasks k).fault_priority) e)))
          go (backup-first same mine kind) (higher l) = counts-so (higher (omega arith))
          go (backup-first same mine kind) (beside one l r) = absurd (true≢false (sym one ∙ kind))
          go (higher-task same mine kind after) (own e) = counts-so (beside mine (omega (arith, backup-priority other kind, ap (λ (k : ℕ). (tasks k).fault_priority) e)) (omega arith))
          go (higher-task same mine kind after) (higher l) = counts-so (higher (omega arith))
          go (higher-task same mine kind after) (beside one l r) = counts-so (beside mine (omega arith) (omega arith))
