-- Which of the two numbers the runner is: the highest priority, or the highest backup of that priority. Assumes nothing.
use Rattle.std.proofs.Common.{◌≡◌, ℕ, ◌≤◌, arith, eq-eqb, ne_eqb}
use native.Mathlib.Decide.{ℕ_discrete}
use Rattle.places.proofs.Largest.{highest-at-most}
use Rattle.sheet.specs.declared.Record.{Record}
use Rattle.replay.specs.declared.Cell.{Cell}
use Rattle.replay.specs.Ticks.Runner.{top_priority, top_backup, runner}

module _ (tasks : ℕ → Record) (cells : ℕ → Cell) where
  pub runner-first : top_backup tasks cells (top_priority tasks cells) ≡ 0 → runner tasks cells ≡ top_priority tasks cells
  unfolding runner
  runner-first none = simp (eq-eqb _ 0 none)

  pub runner-backup : (top_backup tasks cells (top_priority tasks cells) ≡ 0 → ⊥) → runner tasks cells ≡ top_backup tasks cells (top_priority tasks cells)
  unfolding runner
  runner-backup some = simp (ne_eqb _ 0 some)

  pub priority-at-most : top_priority tasks cells ≤ 8
  unfolding top_priority
  priority-at-most = highest-at-most _ 8

  pub backup-at-most : (priority : ℕ) → top_backup tasks cells priority ≤ 8
  unfolding top_backup
  backup-at-most priority = highest-at-most _ 8

  pub runner-at-most : runner tasks cells ≤ 8
  runner-at-most = go (ℕ_discrete (top_backup tasks cells (top_priority tasks cells)) 0)
    where
      go : Dec (top_backup tasks cells (top_priority tasks cells) ≡ 0) → runner tasks cells ≤ 8
      go (yes none) = omega (arith, runner-first none, priority-at-most)
      go (no some) = omega (arith, runner-backup some, backup-at-most (top_priority tasks cells))
