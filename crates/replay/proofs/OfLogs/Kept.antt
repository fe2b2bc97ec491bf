-- Jobs through a tick of a good machine: each one that was there or is released is finished, missed or still there. Assumes nothing.
use Rattle.std.proofs.Common.{◌≡◌, ℕ, ◌+◌, ◌-◌, ◌*◌, ◌/◌, ◌%◌, ◌^◌, ◌<◌, ◌≤◌, Bool, true, false, cond, not, ◌&&◌, eqb, leb, List, [], ◌∷◌, sym, refl, ap, ◌∙◌, subst, true≢false, lt_of_lt_of_le, div-lt_iff_lt-mul, one-mul, arith, pow_pos, pow_mono, eq-eqb, ne_eqb, eqb-true, leb-false}
use mathlib.Mathlib.Data.Bool.Basic.{eq-false_of_not-eq-true}
use native.Mathlib.Nat.{div-eq_of_lt}
use native.Mathlib.Decide.{ℕ_discrete, dec_lt}
use borrow.Author.Tests.{not-false}
use Rattle.places.specs.Places.{some_below, one_if, count_below}
use Rattle.places.proofs.Tells.{neither}
use Rattle.places.proofs.Some.{some-found}
use Rattle.places.proofs.Counted.{count_none, count-one, count-pairs}
use Rattle.places.proofs.Refusals.{none_of, passed}
use Rattle.sheet.specs.Layout.{record_at}
use Rattle.replay.specs.declared.Cell.{Cell}
use Rattle.replay.specs.declared.Machine.{Machine}
use Rattle.replay.specs.Ticks.Tick.{is_released, is_above, is_marked, has_other}
use Rattle.replay.specs.Ticks.Cells.{no_cell, cell_at, is_ready}
use Rattle.replay.specs.Ticks.Step.{released, entered, runs, is_last, is_missed, ended}
use Rattle.replay.specs.Ticks.Counts.{cell_of, gains, unfinished_in}
use Rattle.replay.specs.Ticks.Machines.{cells_entered, runner_of, cells_ran, tick_gains, tick}
use Rattle.replay.specs.Logs.Over.{ran_over}
use Rattle.replay.specs.Logs.Rules.{is_strange, is_early, some_early, is_hasty, tick_refusal, ticks_refusal}
use Rattle.replay.specs.Logs.Totals.{plus, totals_over}
use Rattle.replay.proofs.OfTicks.Struck.{others-kept}
use Rattle.replay.proofs.OfTicks.Ordered.{runs-first, runner-at-most}
use Rattle.replay.proofs.OfTicks.Started.{GoodTask}
use Rattle.replay.proofs.OfTicks.Ticked.{rest-kept, wait-kept, entered_at, ran-at, after-at}

-- the tasks of a machine are those of a good sheet: good below the count, and with fault priorities of at most 8
pub record GoodTasks (m : Machine) : Type 0 where
  pub each : (slot : ℕ) → slot < m.count → GoodTask (record_at m.tasks slot)
  pub priorities : (slot : ℕ) → (record_at m.tasks slot).fault_priority ≤ 8

-- a cell with a job is before the job's deadline, which is no later than the next legal release
abbrev pub Timely : Cell → Type 0
Timely cell = is_ready cell ≡ true → (1 ≤ cell.rest) × (cell.rest ≤ cell.wait)

abbrev pub AllTimely : Machine → Type 0
AllTimely m = (slot : ℕ) → slot < 8 → Timely (cell_at m.cells slot)

pub ready-some : (cell : Cell) → 1 ≤ cell.left → is_ready cell ≡ true
unfolding is_ready
ready-some cell some = simp (ne_eqb cell.left 0 (λ e. omega arith))

-- no bit from n on is set
pub released-below : (releases n slot : ℕ) → is_above releases n ≡ false → is_released releases slot ≡ true → slot < n
unfolding is_above is_released
released-below releases n slot none here = go (dec_lt slot n)
  where
    go : Dec (slot < n) → slot < n
    go (yes low) = low
    go (no high) =
        let zero-above : releases / 2 ^ n ≡ 0 = eqb-true (releases / 2 ^ n) 0 (not-false (eqb (releases / 2 ^ n) 0) none) in
        let small : releases < 1 * 2 ^ n = (div-lt_iff_lt-mul (pow_pos n)).0 (omega arith) in
        let zero-here : releases / 2 ^ slot ≡ 0 = div-eq_of_lt (lt_of_lt_of_le (subst (λ (x : ℕ). releases < x) (one-mul (2 ^ n)) small) (pow_mono (omega arith))) in
        let bit : releases / 2 ^ slot % 2 ≡ 1 = eqb-true (releases / 2 ^ slot % 2) 1 here in
        absurd (omega arith)

-- what a tick that keeps the rules is known for: a release is of a task below the count whose wait is over, and a fault comes after the gap
pub record Legal (m : Machine) (releases faults : ℕ) : Type 0 where
  pub below : (slot : ℕ) → is_released releases slot ≡ true → slot < m.count
  pub free : (slot : ℕ) → slot < 8 → is_released releases slot ≡ true → (cell_at m.cells slot).wait ≡ 0
  pub spaced : is_marked faults ≡ true → m.gap ≡ 0

pub legal : (m : Machine) (releases faults : ℕ) → tick_refusal m releases faults ≡ 0 → Legal m releases faults
unfolding tick_refusal is_strange some_early is_early is_hasty
legal m releases faults e =
    let first = passed (is_strange m.count releases faults) 14 _ e in
    let second = passed (some_early releases (cell_at m.cells)) 15 _ first.1 in
    let third = passed (is_hasty m.gap faults) 16 0 second.1 in
    record {
      below = λ slot here. released-below releases m.count slot (neither (is_above releases m.count) (has_other faults) first.0).0 here;
      free = λ slot low here. over slot low here second.0 (ℕ_discrete (cell_at m.cells slot).wait 0);
      spaced = λ marked. past marked third.0 (ℕ_discrete m.gap 0);
    }
  where
    past : is_marked faults ≡ true → (is_marked faults && not (eqb m.gap 0)) ≡ false → Dec (m.gap ≡ 0) → m.gap ≡ 0
    past marked calm (yes e') = e'
    past marked calm (no e') = absurd (true≢false (sym (simp (marked, ne_eqb m.gap 0 e')) ∙ calm))

    over : (slot : ℕ) → slot < 8 → is_released releases slot ≡ true → some_below (λ k. is_released releases k && not (eqb (cell_at m.cells k).wait 0)) 8 ≡ false → Dec ((cell_at m.cells slot).wait ≡ 0) → (cell_at m.cells slot).wait ≡ 0
    over slot low here none (yes e') = e'
    over slot low here none (no e') = absurd (true≢false (sym (some-found (λ k. is_released releases k && not (eqb (cell_at m.cells k).wait 0)) slot 8 low (simp (here, ne_eqb (cell_at m.cells slot).wait 0 e'))) ∙ none))

-- the tick's end: what is ready stays or is missed
end-counts : (cell : Cell) → one_if (is_ready (ended cell)) + one_if (is_missed cell) ≡ one_if (is_ready cell) + one_if false
unfolding one_if is_missed ended is_ready
end-counts cell = go (is_last cell) (eqb cell.left 0) refl
  where
    go : (l z : Bool) → eqb cell.left 0 ≡ z → cond (not (eqb (cond l 0 cell.left) 0)) 1 0 + cond (l && not (eqb cell.left 0)) 1 0 ≡ cond (not (eqb cell.left 0)) 1 0 + 0
    go true true e = simp e
    go true false e = simp e
    go false true e = simp e
    go false false e = simp e

end-timely : (cell : Cell) → Timely cell → Timely (ended cell)
unfolding ended is_ready is_last
end-timely cell timely = go (leb cell.rest 1) refl
  where
    go : (l : Bool) → leb cell.rest 1 ≡ l → not (eqb (cond l 0 cell.left) 0) ≡ true → (1 ≤ cell.rest - 1) × (cell.rest - 1 ≤ cell.wait - 1)
    go true e ready = absurd (true≢false (sym ready))
    go false e ready = omega (arith, leb-false cell.rest 1 e, timely ready)

module _ (m : Machine) (releases faults : ℕ) where
  -- the job at a slot is finished: it runs, and has nothing left
  abbrev is_done : ℕ → Bool
  is_done slot = runs (runner_of m releases) slot && eqb (cell_at (cells_ran m releases faults) slot).left 0

  module _ (tasks : GoodTasks m) where
    few-run : runner_of m releases ≤ 8
    unfolding runner_of
    few-run = runner-at-most (record_at m.tasks) (cell_at (cells_entered m releases)) tasks.priorities

    -- one job at most is finished, that of the slot that runs
    pub done-count : (tick_gains m releases faults).finished ≡ count_below is_done 8
    unfolding tick_gains gains cell_of runs one_if
    done-count = go (ℕ_discrete who 0)
      where
        who : ℕ
        who = runner_of m releases

        there : Bool
        there = eqb (cell_at (cells_ran m releases faults) (who - 1)).left 0

        go : Dec (who ≡ 0) → one_if (not (eqb who 0) && eqb (cell_of (cells_ran m releases faults) who).left 0) ≡ count_below (λ slot. eqb (slot + 1) who && eqb (cell_at (cells_ran m releases faults) slot).left 0) 8
        go (yes idle) =
            ap (λ (b : Bool). one_if (not b && eqb (cell_of (cells_ran m releases faults) who).left 0)) (eq-eqb who 0 idle)
            ∙ sym (count_none (λ slot. eqb (slot + 1) who && eqb (cell_at (cells_ran m releases faults) slot).left 0) 8 (λ k below. simp (ne_eqb (k + 1) who (λ e. omega arith))))
        go (no some) =
            let same : who - 1 + 1 ≡ who = omega arith in
            let few : who ≤ 8 = few-run in
            ap (λ (b : Bool). one_if (not b && eqb (cond b no_cell (cell_at (cells_ran m releases faults) (who - 1))).left 0)) (ne_eqb who 0 some)
            ∙ sym (count-one (λ slot. eqb (slot + 1) who && eqb (cell_at (cells_ran m releases faults) slot).left 0) (who - 1) 8 (omega arith) (λ k below other. simp (ne_eqb (k + 1) who (λ e. other (omega arith))))
            ∙ ap (λ (b : Bool). one_if (b && there)) (eq-eqb (who - 1 + 1) who same))

module _ (m : Machine) (releases faults : ℕ) (tasks : GoodTasks m) (timely : AllTimely m) (kept : tick_refusal m releases faults ≡ 0) where
  -- releases: a job comes to a slot that has none
  enter-counts : (slot : ℕ) → slot < 8 → one_if (is_ready (cell_at (cells_entered m releases) slot)) + one_if false ≡ one_if (is_ready (cell_at m.cells slot)) + one_if (is_released releases slot)
  unfolding one_if entered
  enter-counts slot below = go (is_released releases slot) refl
    where
      go : (b : Bool) → is_released releases slot ≡ b → one_if (is_ready (cell_at (cells_entered m releases) slot)) + 0 ≡ one_if (is_ready (cell_at m.cells slot)) + one_if (is_released releases slot)
      go true here =
          let rules = legal m releases faults kept in
          let task = tasks.each slot (rules.below slot here) in
          let there : cell_at (cells_entered m releases) slot ≡ released (record_at m.tasks slot) = entered_at m releases slot below ∙ ap (λ (b : Bool). cond b (released (record_at m.tasks slot)) (cell_at m.cells slot)) here in
          let comes = ap is_ready there ∙ ready-some (released (record_at m.tasks slot)) task.cost in
          let empty = eq-false_of_not-eq-true {b = is_ready (cell_at m.cells slot)} (λ ready. omega (arith, timely slot below ready, rules.free slot below here)) in
          simp (comes, empty, here)
      go false here =
          let there : cell_at (cells_entered m releases) slot ≡ cell_at m.cells slot = entered_at m releases slot below ∙ ap (λ (b : Bool). cond b (released (record_at m.tasks slot)) (cell_at m.cells slot)) here in
          simp (there, here)

  enter-timely : (slot : ℕ) → slot < 8 → Timely (cell_at (cells_entered m releases) slot)
  unfolding entered
  enter-timely slot below = go (is_released releases slot) refl
    where
      go : (b : Bool) → is_released releases slot ≡ b → Timely (cell_at (cells_entered m releases) slot)
      go true here =
          let task = tasks.each slot ((legal m releases faults kept).below slot here) in
          subst Timely (sym (entered_at m releases slot below ∙ ap (λ (b : Bool). cond b (released (record_at m.tasks slot)) (cell_at m.cells slot)) here)) (λ ready. (task.deadline, task.period))
      go false here = subst Timely (sym (entered_at m releases slot below ∙ ap (λ (b : Bool). cond b (released (record_at m.tasks slot)) (cell_at m.cells slot)) here)) (timely slot below)

  -- the slot that runs has a job
  runner-ready : (slot : ℕ) → runs (runner_of m releases) slot ≡ true → is_ready (cell_at (cells_entered m releases) slot) ≡ true
  unfolding runs runner_of
  runner-ready slot e =
      (runs-first (record_at m.tasks) (cell_at (cells_entered m releases)) tasks.priorities slot (sym (eqb-true (slot + 1) (runner_of m releases) e))).ready

  -- a job that runs is there afterwards or is finished
  run-counts : (slot : ℕ) → slot < 8 → one_if (is_ready (cell_at (cells_ran m releases faults) slot)) + one_if (is_done m releases faults slot) ≡ one_if (is_ready (cell_at (cells_entered m releases) slot)) + one_if false
  unfolding one_if is_ready
  run-counts slot below = go (runs (runner_of m releases) slot) refl
    where
      one : (z : Bool) → cond (not z) 1 0 + cond z 1 0 ≡ 1
      one true = refl
      one false = refl

      go : (b : Bool) → runs (runner_of m releases) slot ≡ b
          → cond (not (eqb (cell_at (cells_ran m releases faults) slot).left 0)) 1 0 + cond (runs (runner_of m releases) slot && eqb (cell_at (cells_ran m releases faults) slot).left 0) 1 0 ≡ cond (not (eqb (cell_at (cells_entered m releases) slot).left 0)) 1 0 + 0
      go true here = simp (here, runner-ready slot here) (one (eqb (cell_at (cells_ran m releases faults) slot).left 0))
      go false here =
          let same = ran-at m releases faults slot below ∙ others-kept (record_at m.tasks) (is_marked faults) (runner_of m releases) (cell_at (cells_entered m releases)) slot here in
          simp (here, same)

  run-timely : (slot : ℕ) → slot < 8 → Timely (cell_at (cells_ran m releases faults) slot)
  run-timely slot below ready = go (runs (runner_of m releases) slot) refl
    where
      go : (b : Bool) → runs (runner_of m releases) slot ≡ b → (1 ≤ (cell_at (cells_ran m releases faults) slot).rest) × ((cell_at (cells_ran m releases faults) slot).rest ≤ (cell_at (cells_ran m releases faults) slot).wait)
      go b here =
          let at = ran-at m releases faults slot below in
          let rest = ap (λ (c : Cell). c.rest) at ∙ rest-kept (record_at m.tasks) (is_marked faults) (runner_of m releases) (cell_at (cells_entered m releases)) slot in
          let wait = ap (λ (c : Cell). c.wait) at ∙ wait-kept (record_at m.tasks) (is_marked faults) (runner_of m releases) (cell_at (cells_entered m releases)) slot in
          omega (arith, rest, wait, enter-timely slot below (was-ready b here))
        where
          was-ready : (b : Bool) → runs (runner_of m releases) slot ≡ b → is_ready (cell_at (cells_entered m releases) slot) ≡ true
          was-ready true here = runner-ready slot here
          was-ready false here = sym (ap is_ready (ran-at m releases faults slot below ∙ others-kept (record_at m.tasks) (is_marked faults) (runner_of m releases) (cell_at (cells_entered m releases)) slot here)) ∙ ready

  pub tick-timely : AllTimely (tick m releases faults)
  tick-timely slot below = subst Timely (sym (after-at m releases faults slot below)) (end-timely (cell_at (cells_ran m releases faults) slot) (run-timely slot below))

  pub tick-jobs : unfinished_in (tick m releases faults).cells + (tick_gains m releases faults).finished + (tick_gains m releases faults).missed ≡ unfinished_in m.cells + (tick_gains m releases faults).released
  unfolding unfinished_in tick_gains gains
  tick-jobs =
      let after = cell_at (cells_ran m releases faults) in
      let none = count_none (λ k. false) 8 (λ k below. refl) in
      let end =
      count-pairs (λ k. is_ready (cell_at (tick m releases faults).cells k)) (λ k. is_missed (after k)) (λ k. is_ready (after k)) (λ k. false) 8
      (λ k below. ap (λ (c : Cell). one_if (is_ready c) + one_if (is_missed (after k))) (after-at m releases faults k below) ∙ end-counts (after k)) in
      let run = count-pairs (λ k. is_ready (after k)) (is_done m releases faults) (λ k. is_ready (cell_at (cells_entered m releases) k)) (λ k. false) 8 run-counts in
      let enter = count-pairs (λ k. is_ready (cell_at (cells_entered m releases) k)) (λ k. false) (λ k. is_ready (cell_at m.cells k)) (is_released releases) 8 enter-counts in
      omega (arith, none, end, run, enter, done-count m releases faults tasks)

-- finished, missed and unfinished jobs of a log that keeps the rules are those released and those that were there
pub jobs-add-up : (m : Machine) (log : List ℕ) → GoodTasks m → AllTimely m → ticks_refusal m log ≡ 0
    → unfinished_in (ran_over m log).cells + (totals_over m log).finished + (totals_over m log).missed ≡ unfinished_in m.cells + (totals_over m log).released
unfolding ran_over totals_over plus ticks_refusal tick
jobs-add-up m [] tasks timely kept = omega arith
jobs-add-up m (r ∷ []) tasks timely kept = omega arith
jobs-add-up m (r ∷ f ∷ log) tasks timely kept =
    let rules = none_of (tick_refusal m r f) (ticks_refusal (tick m r f) log) kept in
    let rest = jobs-add-up (tick m r f) log (record { each = tasks.each; priorities = tasks.priorities }) (tick-timely m r f tasks timely rules.0) rules.1 in
    omega (arith, rest, tick-jobs m r f tasks timely rules.0)
