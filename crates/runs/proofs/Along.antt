-- The machine along a log that it accepts: between two ticks every wait is below its period and places without a task are empty, and the window of a task is kept. Assumes nothing.
use Prim.Native.Nat.{ℕ, zero, suc, ◌+◌, ◌-◌, ◌≤◌, ◌<◌}
use mathlib.Core.Path.{◌≡◌, refl, sym, ap, ◌∙◌}
use mathlib.Core.Bool.{Bool, true, false, cond, true≢false, and-false}
use mathlib.Core.List.{List, [], ◌∷◌}
use mathlib.Mathlib.Data.Bool.Basic.{eq-false_of_not-eq-true}
use native.Mathlib.Decide.{ℕ_discrete}
use native.Mathlib.Omega.{arith}
use borrow.Author.Tests.{eqb-true}
use Rattle.places.proofs.Tells.{both_true}
use Rattle.places.proofs.Counted.{count_none}
use Rattle.places.proofs.Refusals.{first-all}
use Rattle.sheet.specs.Layout.{record_at}
use Rattle.sheet.specs.declared.Record.{Record}
use Rattle.replay.specs.declared.Cell.{Cell}
use Rattle.replay.specs.declared.Machine.{Machine}
use Rattle.replay.specs.Ticks.Tick.{is_released, is_marked}
use Rattle.replay.specs.Ticks.Cells.{cell_at, is_ready}
use Rattle.replay.specs.Ticks.Step.{released, entered, runs, is_missed, is_last, ended, gap_after}
use Rattle.replay.specs.Ticks.Machines.{cells_entered, runner_of, cells_ran, tick_gains, tick}
use Rattle.replay.specs.Logs.Rules.{tick_refusal, ticks_refusal}
use Rattle.replay.specs.Logs.Positions.{ticks_of, releases_at, faults_at}
use Rattle.replay.specs.Ticks.Counts.{gains}
use Rattle.replay.specs.Logs.Totals.{machine_at, plus, totals_over}
use Rattle.replay.proofs.OfLogs.Countdown.{countdown, reaches}
use Rattle.replay.proofs.OfTicks.Struck.{others-kept}
use Rattle.replay.proofs.OfTicks.Ordered.{runs-first}
use Rattle.replay.proofs.OfTicks.Ticked.{entered_at, ran-at, after-at, wait-after}
use Rattle.replay.proofs.OfLogs.Kept.{GoodTasks, legal}
use Rattle.replay.proofs.OfLogs.History.{refusal_at, ticks-first, releases-shift, faults-shift, machine-shift, tasks-same, count_same, rest-counts}
use Rattle.runs.specs.Ticks.{cell_in, misses_at, finishes_at, ReleasedAt}
use Rattle.runs.proofs.Window.{ready-left, Spaced, Tick, Lowered, Enough, Window, window-kept, none-missed, runs-within}

-- a mark up to a time is the last one, or there is a later one that is
last-mark : (marked : ℕ → Bool) (k time : ℕ) → k ≤ time → marked k ≡ true → (r : ℕ) × (k ≤ r) × (r ≤ time) × (marked r ≡ true) × ((later : ℕ) → r < later → later ≤ time → marked later ≡ false)
last-mark marked k zero within here = (k, omega arith, within, here, λ later after until. absurd (omega arith))
last-mark marked k (suc time) within here = go (marked (suc time)) refl (ℕ_discrete k (suc time)) (last-mark marked k time)
  where
    go : (b : Bool) → marked (suc time) ≡ b → Dec (k ≡ suc time) → (k ≤ time → marked k ≡ true → (r : ℕ) × (k ≤ r) × (r ≤ time) × (marked r ≡ true) × ((later : ℕ) → r < later → later ≤ time → marked later ≡ false))
        → (r : ℕ) × (k ≤ r) × (r ≤ suc time) × (marked r ≡ true) × ((later : ℕ) → r < later → later ≤ suc time → marked later ≡ false)
    go true now same rest = (suc time, within, omega arith, now, λ later after until. absurd (omega arith))
    go false now (yes e) rest = absurd (true≢false (sym here ∙ ap marked e ∙ now))
    go false now (no apart) rest =
        let w = rest (omega arith) here in
        (w.0, w.1, omega (arith, w.2), w.3, λ later after until. until-now w later after until (ℕ_discrete later (suc time)))
      where
        until-now : (w : (r : ℕ) × (k ≤ r) × (r ≤ time) × (marked r ≡ true) × ((later : ℕ) → r < later → later ≤ time → marked later ≡ false)) (later : ℕ) → w.0 < later → later ≤ suc time → Dec (later ≡ suc time) → marked later ≡ false
        until-now w later after until (yes e) = ap marked e ∙ now
        until-now w later after until (no e) = w.4 later after (omega arith)

-- What is known of a machine between two ticks, whatever its sheet asks for.
pub record Sound (m : Machine) : Type 0 where
  pub good : GoodTasks m
  pub lowered : Lowered (record_at m.tasks) m.interval
  pub waits : Spaced (record_at m.tasks) (cell_at m.cells)
  pub gap : m.gap ≤ m.interval - 1
  pub empty : (place : ℕ) → m.count ≤ place → place < 8 → (cell_at m.cells place).left ≡ 0

module _ (m : Machine) (releases faults : ℕ) (sound : Sound m) (kept : tick_refusal m releases faults ≡ 0) where
  waits_end : Spaced (record_at m.tasks) (cell_at (tick m releases faults).cells)
  waits_end place below = rw (wait-after m releases faults place below) (go (is_released releases place))
    where
      go : (b : Bool) → cond b (record_at m.tasks place).period (cell_at m.cells place).wait - 1 ≤ (record_at m.tasks place).period - 1
      go true = omega arith
      go false = omega (arith, sound.waits place below)

  -- the tick as the window sees it
  pub tick-known : Tick (record_at m.tasks) m.interval releases (is_marked faults) m.gap (cell_at m.cells) (cell_at (cells_entered m releases)) (cell_at (cells_ran m releases faults)) (cell_at (tick m releases faults).cells)
  unfolding runner_of
  tick-known =
      let rules = legal m releases faults kept in
      record {
        enters = entered_at m releases;
        works = ran-at m releases faults;
        ends = after-at m releases faults;
        free = λ place below here. (rules.free place below here, (let task = sound.good.each place (rules.below place here) in omega arith));
        calm = rules.spaced;
        spaced = waits_end;
        gapped = sound.gap;
      }

  -- a place without a task stays empty
  empty-ran : (place : ℕ) → m.count ≤ place → place < 8 → (cell_at (cells_ran m releases faults) place).left ≡ 0
  unfolding entered runs runner_of
  empty-ran place past below =
      let quiet = eq-false_of_not-eq-true {b = is_released releases place} (λ here. omega (arith, (legal m releases faults kept).below place here)) in
      let same : cell_at (cells_entered m releases) place ≡ cell_at m.cells place = entered_at m releases place below ∙ ap (λ (b : Bool). cond b (released (record_at m.tasks place)) (cell_at m.cells place)) quiet in
      let none : (cell_at (cells_entered m releases) place).left ≡ 0 = ap (λ (c : Cell). c.left) same ∙ sound.empty place past below in
      let idle = eq-false_of_not-eq-true {b = runs (runner_of m releases) place}
      (λ mine. omega (arith, none, ready-left (cell_at (cells_entered m releases) place) (runs-first (record_at m.tasks) (cell_at (cells_entered m releases)) sound.good.priorities place (sym (eqb-true (place + 1) (runner_of m releases) mine))).ready)) in
      ap (λ (c : Cell). c.left) (ran-at m releases faults place below ∙ others-kept (record_at m.tasks) (is_marked faults) (runner_of m releases) (cell_at (cells_entered m releases)) place idle) ∙ none

  pub sound-kept : Sound (tick m releases faults)
  unfolding tick gap_after ended
  sound-kept =
      record {
        good = record { each = sound.good.each; priorities = sound.good.priorities };
        lowered = sound.lowered;
        waits = waits_end;
        gap = go (is_marked faults);
        empty = λ place past below. ap (λ (c : Cell). c.left) (after-at m releases faults place below) ∙ dropped (is_last (cell_at (cells_ran m releases faults) place)) (empty-ran place past below);
      }
    where
      go : (b : Bool) → cond b m.interval m.gap - 1 ≤ m.interval - 1
      go true = omega arith
      go false = omega (arith, sound.gap)

      dropped : (b : Bool) {left : ℕ} → left ≡ 0 → cond b 0 left ≡ 0
      dropped true e = refl
      dropped false e = e

  -- nothing is missed where nothing is left
  pub empty-missed : (place : ℕ) → m.count ≤ place → place < 8 → is_missed (cell_at (cells_ran m releases faults) place) ≡ false
  unfolding is_missed is_ready
  empty-missed place past below = simp (empty-ran place past below, and-false (is_last (cell_at (cells_ran m releases faults) place)))

-- The window of the task at a place in a machine: it is open for less than L ticks, which are enough.
pub record Open (i backup L : ℕ) (m : Machine) : Type 0 where
  pub enough : Enough (record_at m.tasks) m.interval i backup L
  pub window : Window (record_at m.tasks) m.interval i backup L (cell_at m.cells) m.gap

module _ (m : Machine) (log : List ℕ) (sound : Sound m) (passed : ticks_refusal m log ≡ 0) where
  -- each tick keeps the rules
  refusal-none : (time : ℕ) → time < ticks_of log → refusal_at m log time ≡ 0
  refusal-none = first-all (refusal_at m log) (ticks_of log) (sym (ticks-first m log) ∙ passed)

  pub sound-at : (time : ℕ) → time ≤ ticks_of log → Sound (machine_at m log time)
  unfolding machine_at
  sound-at zero within = sound
  sound-at (suc time) within = sound-kept (machine_at m log time) (releases_at log time) (faults_at log time) (sound-at time (omega arith)) (refusal-none time (omega arith))

  -- nothing is missed at a place without a task
  pub past-misses-none : (place time : ℕ) → m.count ≤ place → place < 8 → time < ticks_of log → misses_at m log place time ≡ false
  unfolding misses_at cell_in
  past-misses-none place time past below within =
      empty-missed (machine_at m log time) (releases_at log time) (faults_at log time) (sound-at time (omega arith)) (refusal-none time within) place (omega (arith, count_same m log time)) below

  module _ (i backup L : ℕ) (opened : Open i backup L m) where
    pub open_at : (time : ℕ) → time ≤ ticks_of log → Open i backup L (machine_at m log time)
    unfolding machine_at tick runner_of
    open_at zero within = opened
    open_at (suc time) within =
        let here = machine_at m log time in
        let held = sound-at time (omega arith) in
        let was = open_at time (omega arith) in
        record {
          enough = was.enough;
          window = window-kept (record_at here.tasks) here.interval i backup L (releases_at log time) (is_marked (faults_at log time)) here.gap _ _ _ _ (tick-known here (releases_at log time) (faults_at log time) held (refusal-none time (omega arith))) held.lowered was.enough was.window;
        }

    module _ (time : ℕ) (within : time < ticks_of log) where
      abbrev here : Machine
      here = machine_at m log time

      -- no job of the task is missed in the tick
      pub misses-none : misses_at m log i time ≡ false
      unfolding misses_at cell_in runner_of
      misses-none =
          let held = sound-at time (omega arith) in
          let was = open_at time (omega arith) in
          none-missed (record_at here.tasks) here.interval i backup L (releases_at log time) (is_marked (faults_at log time)) here.gap _ _ _ _ (tick-known here (releases_at log time) (faults_at log time) held (refusal-none time within)) held.lowered was.enough was.window

      -- and a job that finishes in it was released less than L ticks before
      rest-within : finishes_at m log i time ≡ true → (record_at here.tasks i).deadline < (cell_at (cells_entered here (releases_at log time)) i).rest + L
      unfolding finishes_at cell_in runner_of
      rest-within done =
          let held = sound-at time (omega arith) in
          let was = open_at time (omega arith) in
          runs-within (record_at here.tasks) here.interval i backup L (releases_at log time) (is_marked (faults_at log time)) here.gap _ _ _ _ (tick-known here (releases_at log time) (faults_at log time) held (refusal-none time within)) held.lowered was.enough was.window
          (both_true (runs (runner_of here (releases_at log time)) i) _ done).0

      pub finished-within : (cell_at m.cells i).rest ≡ 0 → finishes_at m log i time ≡ true → (release : ℕ) × ReleasedAt log i time release × (time < release + L)
      unfolding entered
      finished-within fresh done = go (is_released (releases_at log time) i) refl
        where
          deadline : ℕ
          deadline = (record_at m.tasks i).deadline

          below : i < 8
          below = opened.enough.here

          started : {b : Bool} → is_released (releases_at log time) i ≡ b → cell_at (cells_entered here (releases_at log time)) i ≡ cond b (released (record_at here.tasks i)) (cell_at here.cells i)
          started e = entered_at here (releases_at log time) i below ∙ ap (λ (b : Bool). cond b (released (record_at here.tasks i)) (cell_at here.cells i)) e

          go : (b : Bool) → is_released (releases_at log time) i ≡ b → (release : ℕ) × ReleasedAt log i time release × (time < release + L)
          go true now = (time, record { early = omega arith; marked = now; last = λ later after until. absurd (omega arith) }, omega (arith, opened.enough.some))
          go false earlier =
              let same : (record_at here.tasks i).deadline ≡ deadline = ap (λ (tasks : List Record). (record_at tasks i).deadline) (tasks-same m log time) in
              let rest = ap (λ (c : Cell). c.rest) (started earlier) ∙ rest-counts m log i below fresh time in
              let span = countdown (λ t. is_released (releases_at log t) i) deadline time in
              let far : deadline < span + L = omega (arith, rest-within done) in
              let some : 1 ≤ span = omega (arith, opened.enough.timely) in
              let before = (reaches (λ t. is_released (releases_at log t) i) deadline time (span - 1)).0 (omega arith) in
              let last = last-mark (λ t. is_released (releases_at log t) i) before.0 time (omega (arith, before.1)) before.2 in
              (last.0, record { early = last.2; marked = last.3; last = last.4 }, omega (arith, last.1, before.3))

-- the totals of a log in whose ticks nothing is missed
pub none-total : (m : Machine) (log : List ℕ) → ((place time : ℕ) → place < 8 → time < ticks_of log → misses_at m log place time ≡ false) → (totals_over m log).missed ≡ 0
unfolding totals_over plus tick_gains gains misses_at cell_in machine_at releases_at faults_at
none-total m [] none = refl
none-total m (r ∷ []) none = refl
none-total m (r ∷ f ∷ log) none =
    let first = count_none (λ place. is_missed (cell_at (cells_ran m r f) place)) 8 (λ place below. none place 0 below (omega arith)) in
    let rest = none-total (tick m r f) log (λ place time below within. sym (shifted place time) ∙ none place (suc time) below (omega arith)) in
    omega (arith, first, rest)
  where
    shifted : (place time : ℕ) → misses_at m (r ∷ f ∷ log) place (suc time) ≡ misses_at (tick m r f) log place time
    shifted place time = λ j. is_missed (cell_at (cells_ran (machine-shift r f log m time j) (releases-shift r f log time j) (faults-shift r f log time j)) place)
