-- A machine tick by tick along a log: the refusal is the first of the ticks' refusals, and its waits and gap are countdowns of what the log marks. Assumes nothing.
use Rattle.std.proofs.Common.{◌≡◌, ℕ, zero, suc, ◌+◌, ◌-◌, ◌*◌, ◌<◌, ◌≤◌, true, false, cond, List, [], ◌∷◌, get_or, sym, refl, ap, ◌∙◌, ap₂, true≢false, arith}
use mathlib.Core.Path.{fun_ext}
use Rattle.places.specs.Refusals.{or_else, first_below}
use Rattle.places.proofs.Refusals.{first-shift}
use Rattle.sheet.specs.declared.Record.{Record}
use Rattle.sheet.specs.Layout.{record_at}
use Rattle.replay.specs.declared.Machine.{Machine}
use Rattle.replay.specs.Ticks.Tick.{is_released, is_marked}
use Rattle.replay.specs.Ticks.Cells.{cell_at, is_ready}
use Rattle.replay.specs.Ticks.Step.{gap_after}
use Rattle.replay.specs.Ticks.Machines.{tick}
use Rattle.replay.specs.Logs.Rules.{tick_refusal, ticks_refusal}
use Rattle.replay.specs.Logs.Positions.{ticks_of, releases_at, faults_at}
use Rattle.replay.specs.Logs.Totals.{machine_at}
use Rattle.replay.proofs.OfTicks.Ticked.{wait-after, rest-after, none_left}
use Rattle.replay.proofs.OfLogs.Countdown.{countdown}

-- the refusal of the tick at a time
abbrev pub refusal_at : Machine → List ℕ → ℕ → ℕ
refusal_at m log time = tick_refusal (machine_at m log time) (releases_at log time) (faults_at log time)

module _ (r f : ℕ) (log : List ℕ) where
  pub releases-shift : (time : ℕ) → releases_at (r ∷ f ∷ log) (suc time) ≡ releases_at log time
  unfolding releases_at
  releases-shift time =
      let twice : 2 * suc time ≡ suc (suc (2 * time)) = omega arith in
      ap (λ (n : ℕ). get_or (r ∷ f ∷ log) n 0) twice

  pub faults-shift : (time : ℕ) → faults_at (r ∷ f ∷ log) (suc time) ≡ faults_at log time
  unfolding faults_at
  faults-shift time =
      let twice : 2 * suc time + 1 ≡ suc (suc (2 * time + 1)) = omega arith in
      ap (λ (n : ℕ). get_or (r ∷ f ∷ log) n 0) twice

  module _ (m : Machine) where
    pub machine-shift : (time : ℕ) → machine_at m (r ∷ f ∷ log) (suc time) ≡ machine_at (tick m r f) log time
    unfolding machine_at releases_at faults_at
    machine-shift zero = refl
    machine-shift (suc time) = λ i. tick (machine-shift time i) (releases-shift time i) (faults-shift time i)

    refusal-shift : (time : ℕ) → refusal_at m (r ∷ f ∷ log) (suc time) ≡ refusal_at (tick m r f) log time
    refusal-shift time = λ i. tick_refusal (machine-shift time i) (releases-shift time i) (faults-shift time i)

    refusal-zero : refusal_at m (r ∷ f ∷ log) 0 ≡ tick_refusal m r f
    unfolding machine_at releases_at faults_at
    refusal-zero = refl

-- "tick by tick"
pub ticks-first : (m : Machine) (log : List ℕ) → ticks_refusal m log ≡ first_below (refusal_at m log) (ticks_of log)
unfolding ticks_refusal first_below
ticks-first m [] = refl
ticks-first m (r ∷ []) = refl
ticks-first m (r ∷ f ∷ log) =
    let one_more : suc (ticks_of log) ≡ ticks_of (r ∷ f ∷ log) = omega arith in
    ap₂ or_else (sym (refusal-zero r f log m)) (ticks-first (tick m r f) log ∙ ap (λ (t : ℕ → ℕ). first_below t (ticks_of log)) (sym (fun_ext (refusal-shift r f log m))))
    ∙ sym (first-shift (refusal_at m (r ∷ f ∷ log)) (ticks_of log)) ∙ ap (first_below (refusal_at m (r ∷ f ∷ log))) one_more

module _ (m : Machine) (log : List ℕ) where
  pub tasks-same : (time : ℕ) → (machine_at m log time).tasks ≡ m.tasks
  unfolding machine_at tick
  tasks-same zero = refl
  tasks-same (suc time) = tasks-same time

  pub count_same : (time : ℕ) → (machine_at m log time).count ≡ m.count
  unfolding machine_at tick
  count_same zero = refl
  count_same (suc time) = count_same time

  interval-same : (time : ℕ) → (machine_at m log time).interval ≡ m.interval
  unfolding machine_at tick
  interval-same zero = refl
  interval-same (suc time) = interval-same time

  -- where no release is to be waited for at first, each wait counts down from the task's own releases
  pub wait-counts : (slot : ℕ) → slot < 8 → (cell_at m.cells slot).wait ≡ 0 → (time : ℕ)
      → (cell_at (machine_at m log time).cells slot).wait ≡ countdown (λ t. is_released (releases_at log t) slot) (record_at m.tasks slot).period time
  unfolding machine_at countdown
  wait-counts slot below free zero = free
  wait-counts slot below free (suc time) =
      wait-after (machine_at m log time) (releases_at log time) (faults_at log time) slot below
      ∙ ap₂ (λ (tasks : List Record) (wait : ℕ). cond (is_released (releases_at log time) slot) (record_at tasks slot).period wait - 1) (tasks-same time) (wait-counts slot below free time)

  pub gap-counts : m.gap ≡ 0 → (time : ℕ) → (machine_at m log time).gap ≡ countdown (λ t. is_marked (faults_at log t)) m.interval time
  unfolding machine_at countdown tick gap_after
  gap-counts free zero = free
  gap-counts free (suc time) = ap₂ (λ (interval gap : ℕ). cond (is_marked (faults_at log time)) interval gap - 1) (interval-same time) (gap-counts free time)

  -- and so do the ticks until each deadline
  pub rest-counts : (slot : ℕ) → slot < 8 → (cell_at m.cells slot).rest ≡ 0 → (time : ℕ)
      → (cell_at (machine_at m log time).cells slot).rest ≡ countdown (λ t. is_released (releases_at log t) slot) (record_at m.tasks slot).deadline time
  unfolding machine_at countdown
  rest-counts slot below free zero = free
  rest-counts slot below free (suc time) =
      rest-after (machine_at m log time) (releases_at log time) (faults_at log time) slot below
      ∙ ap₂ (λ (tasks : List Record) (rest : ℕ). cond (is_released (releases_at log time) slot) (record_at tasks slot).deadline rest - 1) (tasks-same time) (rest-counts slot below free time)

  -- a job that is there between two ticks is before its deadline
  pub job-in-time : (slot : ℕ) → slot < 8 → is_ready (cell_at m.cells slot) ≡ false → (time : ℕ) → is_ready (cell_at (machine_at m log time).cells slot) ≡ true → 1 ≤ (cell_at (machine_at m log time).cells slot).rest
  unfolding machine_at
  job-in-time slot below none zero ready = absurd (true≢false (sym ready ∙ none))
  job-in-time slot below none (suc time) ready = none_left (machine_at m log time) (releases_at log time) (faults_at log time) slot below ready
