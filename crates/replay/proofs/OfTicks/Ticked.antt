-- What each phase of a tick leaves at a slot. Assumes nothing.
use Rattle.std.proofs.Common.{◌≡◌, ℕ, ◌-◌, ◌<◌, ◌≤◌, Bool, true, false, cond, not, ◌&&◌, eqb, leb, sym, refl, ap, ◌∙◌, subst, true≢false, arith, leb-false}
use Rattle.sheet.specs.declared.Record.{Record}
use Rattle.sheet.specs.Layout.{record_at}
use Rattle.replay.specs.declared.Cell.{Cell}
use Rattle.replay.specs.declared.Machine.{Machine}
use Rattle.replay.specs.Ticks.Tick.{is_released, is_marked}
use Rattle.replay.specs.Ticks.Cells.{cell_at, is_ready}
use Rattle.replay.specs.Ticks.Step.{released, entered, runs, worked, ran, struck, faulted, is_last, ended}
use Rattle.replay.specs.Ticks.Machines.{cells_entered, runner_of, cells_ran, tick}
use Rattle.replay.proofs.OfTicks.Eight.{cell-eight}

-- work and fault leave the deadline and the next legal release of each slot
module _ (tasks : ℕ → Record) (is_struck : Bool) (runner : ℕ) (cells : ℕ → Cell) (slot : ℕ) where
  pub rest-kept : (faulted tasks is_struck runner (ran runner cells) slot).rest ≡ (cells slot).rest
  unfolding faulted ran
  rest-kept = go (runs runner slot) is_struck
    where
      go : (r s : Bool) → (cond (s && r) (struck (tasks slot) (cond r (worked (cells slot)) (cells slot))) (cond r (worked (cells slot)) (cells slot))).rest ≡ (cells slot).rest
      go true true = refl
      go true false = refl
      go false true = refl
      go false false = refl

  pub wait-kept : (faulted tasks is_struck runner (ran runner cells) slot).wait ≡ (cells slot).wait
  unfolding faulted ran
  wait-kept = go (runs runner slot) is_struck
    where
      go : (r s : Bool) → (cond (s && r) (struck (tasks slot) (cond r (worked (cells slot)) (cells slot))) (cond r (worked (cells slot)) (cells slot))).wait ≡ (cells slot).wait
      go true true = refl
      go true false = refl
      go false true = refl
      go false false = refl

pick-field : {A : Type 0} (field : Cell → A) (b : Bool) (x y : Cell) → field (cond b x y) ≡ cond b (field x) (field y)
pick-field field true x y = refl
pick-field field false x y = refl

in-time : (cell : Cell) → is_ready (ended cell) ≡ true → 1 ≤ (ended cell).rest
unfolding ended is_ready is_last
in-time cell = go (leb cell.rest 1) refl
  where
    go : (last : Bool) → leb cell.rest 1 ≡ last → not (eqb (cond last 0 cell.left) 0) ≡ true → 1 ≤ cell.rest - 1
    go true e ready = absurd (true≢false (sym ready))
    go false e ready = omega (arith, leb-false cell.rest 1 e)

module _ (m : Machine) (releases : ℕ) where
  pub entered_at : (slot : ℕ) → slot < 8 → cell_at (cells_entered m releases) slot ≡ entered (record_at m.tasks) releases (cell_at m.cells) slot
  unfolding cells_entered
  entered_at slot below = cell-eight _ slot below

  module _ (faults : ℕ) where
    pub ran-at : (slot : ℕ) → slot < 8
        → cell_at (cells_ran m releases faults) slot ≡ faulted (record_at m.tasks) (is_marked faults) (runner_of m releases) (ran (runner_of m releases) (cell_at (cells_entered m releases))) slot
    unfolding cells_ran
    ran-at slot below = cell-eight _ slot below

    pub after-at : (slot : ℕ) → slot < 8 → cell_at (tick m releases faults).cells slot ≡ ended (cell_at (cells_ran m releases faults) slot)
    unfolding tick
    after-at slot below = cell-eight _ slot below

    -- the wait of a slot after a tick: its period from a release on, else what it was, and one tick less
    pub wait-after : (slot : ℕ) → slot < 8 → (cell_at (tick m releases faults).cells slot).wait ≡ cond (is_released releases slot) (record_at m.tasks slot).period (cell_at m.cells slot).wait - 1
    unfolding ended entered
    wait-after slot below =
        ap (λ (c : Cell). c.wait) (after-at slot below) ∙ ap (λ (c : Cell). c.wait - 1) (ran-at slot below)
        ∙ ap (λ (n : ℕ). n - 1) (wait-kept (record_at m.tasks) (is_marked faults) (runner_of m releases) (cell_at (cells_entered m releases)) slot
        ∙ ap (λ (c : Cell). c.wait) (entered_at slot below) ∙ pick-field (λ c. c.wait) (is_released releases slot) (released (record_at m.tasks slot)) (cell_at m.cells slot))

    -- and the ticks until its deadline alike
    pub rest-after : (slot : ℕ) → slot < 8 → (cell_at (tick m releases faults).cells slot).rest ≡ cond (is_released releases slot) (record_at m.tasks slot).deadline (cell_at m.cells slot).rest - 1
    unfolding ended entered
    rest-after slot below =
        ap (λ (c : Cell). c.rest) (after-at slot below) ∙ ap (λ (c : Cell). c.rest - 1) (ran-at slot below)
        ∙ ap (λ (n : ℕ). n - 1) (rest-kept (record_at m.tasks) (is_marked faults) (runner_of m releases) (cell_at (cells_entered m releases)) slot
        ∙ ap (λ (c : Cell). c.rest) (entered_at slot below) ∙ pick-field (λ c. c.rest) (is_released releases slot) (released (record_at m.tasks slot)) (cell_at m.cells slot))

    -- no job is left where the deadline is reached
    pub none_left : (slot : ℕ) → slot < 8 → is_ready (cell_at (tick m releases faults).cells slot) ≡ true → 1 ≤ (cell_at (tick m releases faults).cells slot).rest
    none_left slot below ready = subst (λ (c : Cell). 1 ≤ c.rest) (sym (after-at slot below)) (in-time (cell_at (cells_ran m releases faults) slot) (sym (ap is_ready (after-at slot below)) ∙ ready))
