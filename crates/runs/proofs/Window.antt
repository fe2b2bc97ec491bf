-- The window of a task: the ticks since nothing that counts for it was left. What is left of the work that counts, with the window's length, is at most what the releases and faults of that length can have asked for; so the window ends within L ticks, and with it the task's job. Assumes nothing.
use Prim.Native.Nat.{ℕ, ◌+◌, ◌-◌, ◌*◌, ◌≤◌, ◌<◌}
use mathlib.Core.Path.{◌≡◌, refl, sym, ap, subst, ◌∙◌}
use mathlib.Core.Bool.{Bool, true, false, cond, not, ◌&&◌, true≢false, and-false}
use mathlib.Mathlib.Data.Bool.Basic.{eq-false_of_not-eq-true}
use native.Mathlib.Nat.{mul-le-mul_right}
use native.Mathlib.Decide.{ℕ_discrete}
use native.Mathlib.Omega.{arith}
use borrow.Author.Tests.{eq-eqb, ne_eqb, eqb-true, eqb-false, lt-leb, not-true}
use lib.Dec.{eqb, leb}
use Rattle.places.specs.Places.{sum_below}
use Rattle.places.proofs.Summed.{sum-rises, sum-part, sum-none, sum-pairs, sum_one, sum-some}
use Rattle.sheet.specs.declared.Record.{Record}
use Rattle.analysis.specs.Common.Rounding.{up}
use Rattle.replay.specs.declared.Cell.{Cell}
use Rattle.replay.specs.Ticks.Tick.{is_released}
use Rattle.replay.specs.Ticks.Cells.{is_ready}
use Rattle.replay.specs.Ticks.Runner.{runner}
use Rattle.replay.specs.Ticks.Step.{released, entered, runs, worked, ran, struck, faulted, is_last, is_missed, ended, gap_after}
use Rattle.replay.proofs.OfTicks.Struck.{others-kept, runner-changed}
use Rattle.replay.proofs.OfTicks.Ordered.{runs-first, idle-none, runner-at-most}
use Rattle.replay.proofs.OfTicks.Ticked.{rest-kept, wait-kept}
use Rattle.replay.proofs.OfLogs.Kept.{ready-some}
use Rattle.runs.proofs.Paced.{times, times-comes, times-ends, times-most}
use Rattle.runs.proofs.Counting.{counts, counts-worked, counts-ended, counts-own, counts-before, counts-ahead}

pub ready-left : (cell : Cell) → is_ready cell ≡ true → 1 ≤ cell.left
unfolding is_ready
ready-left cell ready = let some = eqb-false cell.left 0 (not-true (eqb cell.left 0) ready) in omega arith

-- between ticks every wait is below its period
abbrev pub Spaced : (ℕ → Record) → (ℕ → Cell) → Type 0
Spaced tasks cells = (place : ℕ) → place < 8 → (cells place).wait ≤ (tasks place).period - 1

-- the tasks by place, and the fault interval E
module _ (tasks : ℕ → Record) (interval : ℕ) where
  -- What is known of a tick: the cells before it, once releases are in, after the work and the fault, and at its end; a release comes when its wait is over, and a fault when the gap is.
  pub record Tick (releases : ℕ) (is_struck : Bool) (gap : ℕ) (before started worked-on after : ℕ → Cell) : Type 0 where
    pub enters : (place : ℕ) → place < 8 → started place ≡ entered tasks releases before place
    pub works : (place : ℕ) → place < 8 → worked-on place ≡ faulted tasks is_struck (runner tasks started) (ran (runner tasks started) started) place
    pub ends : (place : ℕ) → place < 8 → after place ≡ ended (worked-on place)
    pub free : (place : ℕ) → place < 8 → is_released releases place ≡ true → ((before place).wait ≡ 0) × (1 ≤ (tasks place).period)
    pub calm : is_struck ≡ true → gap ≡ 0
    pub spaced : Spaced tasks after
    pub gapped : gap ≤ interval - 1

  -- What is known of the tasks: no fault priority is above the priority, and faults are an interval apart.
  pub record Lowered : Type 0 where
    pub some : 1 ≤ interval
    pub priorities : (place : ℕ) → (tasks place).fault_priority ≤ 8
    pub under : (place : ℕ) → place < 8 → (tasks place).fault_priority ≤ place + 1

-- the task at a place i
module _ (tasks : ℕ → Record) (interval i : ℕ) where
  -- the work left at a place, if it counts
  unfoldable pub work_at : (ℕ → Cell) → ℕ → ℕ
  work_at cells place = cond (counts tasks i place (cells place)) (cells place).left 0

  -- all the work left that counts
  unfoldable pub work : (ℕ → Cell) → ℕ
  work cells = sum_below (work_at cells) 8

  -- what the task at a place, if its first attempts count, can have asked for in the last x ticks
  unfoldable pub asked_at : ℕ → (ℕ → Cell) → ℕ → ℕ
  asked_at x cells place = cond (counts tasks i place (released (tasks place))) (times x (cells place).wait (tasks place).period * (tasks place).cost) 0

  -- and so all of them
  unfoldable pub asked : ℕ → (ℕ → Cell) → ℕ
  asked x cells = sum_below (asked_at x cells) 8

  -- what they ask for in L ticks at most
  unfoldable pub most : ℕ → ℕ
  most L = sum_below (λ place. cond (counts tasks i place (released (tasks place))) (up L (tasks place).period * (tasks place).cost) 0) 8

  asked-most : (x : ℕ) (cells : ℕ → Cell) → Spaced tasks cells → asked x cells ≤ most x
  unfolding asked asked_at most
  asked-most x cells spaced = sum-rises 8 (λ place below. go place below (counts tasks i place (released (tasks place))))
    where
      go : (place : ℕ) → place < 8 → (b : Bool) → cond b (times x (cells place).wait (tasks place).period * (tasks place).cost) 0 ≤ cond b (up x (tasks place).period * (tasks place).cost) 0
      go place below true = mul-le-mul_right (tasks place).cost (times-most x (cells place).wait (tasks place).period (spaced place below))
      go place below false = omega arith

  module _ (backup L : ℕ) where
    -- The equation, by place: L is enough for all that its ticks can ask for and a backup for each of their faults, and no more than the deadline.
    pub record Enough : Type 0 where
      pub here : i < 8
      pub some : 1 ≤ L
      pub timely : L ≤ (tasks i).deadline
      pub fits : most L + up L interval * backup ≤ L
      pub covers : (place : ℕ) → place < 8 → (job : Cell) → counts tasks i place (struck (tasks place) job) ≡ true → (tasks place).backup ≤ backup

    -- The invariant: a window shorter than L that the job of i, if there is one, was released in.
    pub record Window (cells : ℕ → Cell) (gap : ℕ) : Type 0 where
      pub ticks : ℕ
      pub short : ticks < L
      pub paid : work cells + ticks ≤ asked ticks cells + times ticks gap interval * backup
      pub job : 1 ≤ (cells i).left → (tasks i).deadline ≤ (cells i).rest + ticks

    module _ (releases : ℕ) (is_struck : Bool) (gap : ℕ) (before started worked-on after : ℕ → Cell) (tick : Tick tasks interval releases is_struck gap before started worked-on after) (tasks-known : Lowered tasks interval) (enough : Enough) where
      -- Releases come in: what they bring is asked for.
      enter-place : (x place : ℕ) → place < 8 → work_at started place + asked_at x before place ≤ work_at before place + asked_at x started place
      unfolding work_at asked_at entered
      enter-place x place below = subst (λ (c : Cell). cond (counts tasks i place c) c.left 0 + asked_at x before place ≤ work_at before place + asks c.wait) (sym (tick.enters place below)) (go (is_released releases place) refl)
        where
          asks : ℕ → ℕ
          asks wait = cond (counts tasks i place (released (tasks place))) (times x wait (tasks place).period * (tasks place).cost) 0

          comes : (b : Bool) → times x (tasks place).period (tasks place).period ≡ times x (before place).wait (tasks place).period + 1
              → cond b (tasks place).cost 0 + cond b (times x (before place).wait (tasks place).period * (tasks place).cost) 0 ≤ work_at before place + cond b (times x (tasks place).period (tasks place).period * (tasks place).cost) 0
          comes true e = rw e (omega arith)
          comes false e = omega arith

          go : (b : Bool) → is_released releases place ≡ b
              → cond (counts tasks i place (cond b (released (tasks place)) (before place))) (cond b (released (tasks place)) (before place)).left 0 + asks (before place).wait ≤ work_at before place + asks (cond b (released (tasks place)) (before place)).wait
          go true here = let w = tick.free place below here in comes (counts tasks i place (released (tasks place))) (times-comes x (before place).wait (tasks place).period w.1 w.0)
          go false here = omega arith

      pub window-enters : Window before gap → Window started gap
      unfolding work asked entered
      window-enters window =
          record {
            ticks = window.ticks;
            short = window.short;
            paid = omega (arith, window.paid, sum-pairs (work_at started) (asked_at window.ticks before) (work_at before) (asked_at window.ticks started) 8 (enter-place window.ticks));
            job = subst (λ (c : Cell). 1 ≤ c.left → (tasks i).deadline ≤ c.rest + window.ticks) (sym (tick.enters i enough.here)) (go (is_released releases i));
          }
        where
          go : (b : Bool) → 1 ≤ (cond b (released (tasks i)) (before i)).left → (tasks i).deadline ≤ (cond b (released (tasks i)) (before i)).rest + window.ticks
          go true some = omega arith
          go false some = window.job some

      -- The runner works: where something that counts is left, the runner counts.
      abbrev who : ℕ
      who = runner tasks started

      kept : (place : ℕ) → place < 8 → runs who place ≡ false → work_at worked-on place ≡ work_at started place
      unfolding work_at
      kept place below other = ap (λ (c : Cell). cond (counts tasks i place c) c.left 0) (tick.works place below ∙ others-kept tasks is_struck who started place other)

      -- the cell of the runner
      changed : (place : ℕ) → place < 8 → runs who place ≡ true → worked-on place ≡ cond is_struck (struck (tasks place) (worked (started place))) (worked (started place))
      changed place below mine = tick.works place below ∙ runner-changed tasks is_struck who started place mine

      -- a runner that counts does a tick of the work, or is struck and has at most the largest backup to do
      runner-works : (place : ℕ) → place < 8 → runs who place ≡ true → 1 ≤ (started place).left → counts tasks i place (started place) ≡ true → work_at worked-on place + 1 ≤ work_at started place + cond is_struck backup 0
      unfolding work_at
      runner-works place below mine some count =
          subst (λ (c : Cell). cond (counts tasks i place c) c.left 0 + 1 ≤ cond (counts tasks i place (started place)) (started place).left 0 + cond is_struck backup 0) (sym (changed place below mine)) (go is_struck)
        where
          go : (b : Bool) → cond (counts tasks i place (cond b (struck (tasks place) (worked (started place))) (worked (started place)))) (cond b (struck (tasks place) (worked (started place))) (worked (started place))).left 0 + 1
              ≤ cond (counts tasks i place (started place)) (started place).left 0 + cond b backup 0
          go true = rw count (strikes (counts tasks i place (struck (tasks place) (worked (started place)))) refl)
            where
              strikes : (c : Bool) → counts tasks i place (struck (tasks place) (worked (started place))) ≡ c → cond c (tasks place).backup 0 + 1 ≤ (started place).left + backup
              strikes true e = omega (arith, enough.covers place below (worked (started place)) e)
              strikes false e = omega arith
          go false = rw (counts-worked tasks i place (started place)) (rw count (omega arith))

      -- a runner that does not count brings nothing that does
      runner-outside : (place : ℕ) → place < 8 → runs who place ≡ true → counts tasks i place (started place) ≡ false → work_at worked-on place ≡ 0
      unfolding work_at
      runner-outside place below mine count =
          subst (λ (c : Cell). cond (counts tasks i place c) c.left 0 ≡ 0) (sym (changed place below mine)) (go is_struck)
        where
          go : (b : Bool) → cond (counts tasks i place (cond b (struck (tasks place) (worked (started place))) (worked (started place)))) (cond b (struck (tasks place) (worked (started place))) (worked (started place))).left 0 ≡ 0
          go true = rw (eq-false_of_not-eq-true {b = counts tasks i place (struck (tasks place) (worked (started place)))} (λ e. true≢false (sym (counts-before tasks i tasks-known.under place below (started place) (worked (started place)) e) ∙ count))) refl
          go false = rw (counts-worked tasks i place (started place)) (rw count refl)

      runs-at : (place : ℕ) → who ≡ place + 1 → runs who place ≡ true
      unfolding runs
      runs-at place e = eq-eqb (place + 1) who (sym e)

      runs-only : (place other : ℕ) → who ≡ place + 1 → (other ≡ place → ⊥) → runs who other ≡ false
      unfolding runs
      runs-only place other e apart = ne_eqb (other + 1) who (λ same. apart (omega arith))

      runs-there : (place : ℕ) → runs who place ≡ true → who ≡ place + 1
      unfolding runs
      runs-there place e = sym (eqb-true (place + 1) who e)

      -- the job that runs has work left
      runner-ready : (place : ℕ) → runs who place ≡ true → 1 ≤ (started place).left
      runner-ready place mine = ready-left (started place) (runs-first tasks started tasks-known.priorities place (runs-there place mine)).ready

      -- where something that counts is left, it is at some place
      work-there : (place : ℕ) → 1 ≤ work_at started place → (counts tasks i place (started place) ≡ true) × (1 ≤ (started place).left)
      unfolding work_at
      work-there place = go (counts tasks i place (started place))
        where
          go : (b : Bool) → 1 ≤ cond b (started place).left 0 → (b ≡ true) × (1 ≤ (started place).left)
          go true some = (refl, some)
          go false some = absurd (omega arith)

      -- so the machine does a tick of it
      work-runs : 1 ≤ work started → work worked-on + 1 ≤ work started + cond is_struck backup 0
      unfolding work
      work-runs some = go (sum-some (work_at started) 8 some)
        where
          go : (k : ℕ) × (k < 8) × (1 ≤ work_at started k) → sum_below (work_at worked-on) 8 + 1 ≤ sum_below (work_at started) 8 + cond is_struck backup 0
          go w =
              let there = work-there w.0 w.2 in
              let ready = ready-some (started w.0) there.1 in
              let busy : who ≡ 0 → ⊥ = λ idle. true≢false (sym ready ∙ idle-none tasks started tasks-known.priorities idle w.0 w.1) in
              let here : who ≡ who - 1 + 1 = omega arith in
              let below : who - 1 < 8 = omega (arith, runner-at-most tasks started tasks-known.priorities) in
              let mine = runs-at (who - 1) here in
              sum_one (work_at worked-on) (work_at started) 1 (cond is_struck backup 0) (who - 1) 8 below (λ k low apart. kept k low (runs-only (who - 1) k here apart))
              (runner-works (who - 1) below mine (runner-ready (who - 1) mine) (counting (ℕ_discrete w.0 (who - 1)) here below ready there))
            where
              counting : Dec (w.0 ≡ who - 1) → who ≡ who - 1 + 1 → who - 1 < 8 → is_ready (started w.0) ≡ true → (counts tasks i w.0 (started w.0) ≡ true) × (1 ≤ (started w.0).left) → counts tasks i (who - 1) (started (who - 1)) ≡ true
              counting (yes e) here below ready there = subst (λ (k : ℕ). counts tasks i k (started k) ≡ true) e there.0
              counting (no apart) here below ready there =
                  counts-ahead tasks i tasks-known.under started (who - 1) w.0 below w.1 ((runs-first tasks started tasks-known.priorities (who - 1) here).before w.0 w.1 ready apart) there.0

      -- and where nothing is left, nothing comes of its tick
      work_none : work started ≡ 0 → work worked-on ≡ 0
      unfolding work work_at
      work_none none = sum-none (work_at worked-on) 8 (λ place below. go place below (runs who place) refl)
        where
          nothing : (place : ℕ) → place < 8 → work_at started place ≡ 0
          nothing place below = omega (arith, sum-part (work_at started) 8 place below)

          outside : (place : ℕ) → place < 8 → 1 ≤ (started place).left → counts tasks i place (started place) ≡ false
          outside place below some = eq-false_of_not-eq-true {b = counts tasks i place (started place)} (λ e. let all : work_at started place ≡ (started place).left = simp e in omega (arith, nothing place below))

          go : (place : ℕ) → place < 8 → (b : Bool) → runs who place ≡ b → work_at worked-on place ≡ 0
          go place below true mine = runner-outside place below mine (outside place below (runner-ready place mine))
          go place below false other = kept place below other ∙ nothing place below

      -- The tick ends: nothing that counts is added, and no less can have been asked for.
      wait-ends : (place : ℕ) → place < 8 → (after place).wait ≡ (started place).wait - 1
      unfolding ended
      wait-ends place below = ap (λ (c : Cell). c.wait) (tick.ends place below) ∙ ap (λ (c : Cell). c.wait - 1) (tick.works place below) ∙ ap (λ (n : ℕ). n - 1) (wait-kept tasks is_struck who started place)

      rest-runs : (place : ℕ) → place < 8 → (worked-on place).rest ≡ (started place).rest
      rest-runs place below = ap (λ (c : Cell). c.rest) (tick.works place below) ∙ rest-kept tasks is_struck who started place

      rest-ends : (place : ℕ) → place < 8 → (after place).rest ≡ (started place).rest - 1
      unfolding ended
      rest-ends place below = ap (λ (c : Cell). c.rest) (tick.ends place below) ∙ ap (λ (n : ℕ). n - 1) (rest-runs place below)

      left-ends : (place : ℕ) → place < 8 → (after place).left ≤ (worked-on place).left
      unfolding ended
      left-ends place below = subst (λ (c : Cell). c.left ≤ (worked-on place).left) (sym (tick.ends place below)) (go (is_last (worked-on place)))
        where
          go : (b : Bool) → cond b 0 (worked-on place).left ≤ (worked-on place).left
          go true = omega arith
          go false = omega arith

      work-ends : work after ≤ work worked-on
      unfolding work work_at
      work-ends = sum-rises 8 (λ place below. rw (ap (counts tasks i place) (tick.ends place below) ∙ counts-ended tasks i place (worked-on place)) (go place below (counts tasks i place (worked-on place))))
        where
          go : (place : ℕ) → place < 8 → (b : Bool) → cond b (after place).left 0 ≤ cond b (worked-on place).left 0
          go place below true = left-ends place below
          go place below false = omega arith

      asked-ends : (x : ℕ) → asked x started ≤ asked (x + 1) after
      unfolding asked asked_at
      asked-ends x = sum-rises 8 (λ place below. rw (wait-ends place below) (go place (counts tasks i place (released (tasks place)))))
        where
          go : (place : ℕ) (b : Bool) → cond b (times x (started place).wait (tasks place).period * (tasks place).cost) 0 ≤ cond b (times (x + 1) ((started place).wait - 1) (tasks place).period * (tasks place).cost) 0
          go place true = mul-le-mul_right (tasks place).cost (times-ends x (started place).wait (tasks place).period)
          go place false = omega arith

      abbrev gap-after : ℕ
      gap-after = gap_after interval is_struck gap

      faults-end : (x : ℕ) → times x gap interval * backup + cond is_struck backup 0 ≤ times (x + 1) gap-after interval * backup
      unfolding gap_after
      faults-end x = go is_struck refl
        where
          go : (b : Bool) → is_struck ≡ b → times x gap interval * backup + cond b backup 0 ≤ times (x + 1) (cond b interval gap - 1) interval * backup
          go true struck-now =
              let more = times-comes x gap interval tasks-known.some (tick.calm struck-now) in
              let product : times x interval interval * backup ≡ times x gap interval * backup + backup = rw more (omega arith) in
              omega (arith, product, mul-le-mul_right backup (times-ends x interval interval))
          go false quiet = omega (arith, mul-le-mul_right backup (times-ends x gap interval))

      gap-small : gap-after ≤ interval - 1
      unfolding gap_after
      gap-small = go is_struck
        where
          go : (b : Bool) → cond b interval gap - 1 ≤ interval - 1
          go true = omega arith
          go false = omega (arith, tick.gapped)

      -- the work that is left is within what the longer window can have asked for
      paid-on : (window : Window started gap) → 1 ≤ work worked-on → work worked-on + (window.ticks + 1) ≤ asked (window.ticks + 1) after + times (window.ticks + 1) gap-after interval * backup
      paid-on window some = go (ℕ_discrete (work started) 0)
        where
          go : Dec (work started ≡ 0) → work worked-on + (window.ticks + 1) ≤ asked (window.ticks + 1) after + times (window.ticks + 1) gap-after interval * backup
          go (yes none) = absurd (omega (arith, work_none none))
          go (no busy) = omega (arith, window.paid, work-runs (omega arith), asked-ends window.ticks, faults-end window.ticks)

      -- so a window in which something is left is shorter than L
      short_on : (window : Window started gap) → 1 ≤ work worked-on → window.ticks + 1 < L
      short_on window some = go (ℕ_discrete (window.ticks + 1) L)
        where
          go : Dec (window.ticks + 1 ≡ L) → window.ticks + 1 < L
          go (yes full) =
              let all : asked (window.ticks + 1) after ≤ most L = subst (λ (x : ℕ). asked (window.ticks + 1) after ≤ most x) full (asked-most (window.ticks + 1) after tick.spaced) in
              let faults : times (window.ticks + 1) gap-after interval ≤ up L interval = subst (λ (x : ℕ). times (window.ticks + 1) gap-after interval ≤ up x interval) full (times-most (window.ticks + 1) gap-after interval gap-small) in
              absurd (omega (arith, paid-on window some, mul-le-mul_right backup faults, all, enough.fits))
          go (no apart) = omega (arith, window.short)

      own-work : (cells : ℕ → Cell) → (cells i).left ≤ work cells
      unfolding work work_at
      own-work cells = omega (arith, own, sum-part (work_at cells) 8 i enough.here)
        where
          own : work_at cells i ≡ (cells i).left
          own = simp (counts-own tasks i (cells i))

      -- a job of i that is left was there, and the window was open at its release
      own-job : (window : Window started gap) → 1 ≤ (worked-on i).left → (tasks i).deadline ≤ (started i).rest + window.ticks
      own-job window some = window.job (go (runs who i) refl)
        where
          go : (b : Bool) → runs who i ≡ b → 1 ≤ (started i).left
          go true mine = runner-ready i mine
          go false other = subst (λ (c : Cell). 1 ≤ c.left) (tick.works i enough.here ∙ others-kept tasks is_struck who started i other) some

      -- The window goes on, or starts anew where nothing that counts is left.
      pub window-kept : Window before gap → Window after gap-after
      window-kept window = go (ℕ_discrete (work worked-on) 0)
        where
          now : Window started gap
          now = window-enters window

          go : Dec (work worked-on ≡ 0) → Window after gap-after
          go (yes none) = record { ticks = 0; short = enough.some; paid = omega (arith, work-ends); job = λ some. absurd (omega (arith, own-work after, work-ends)) }
          go (no busy) =
              record {
                ticks = now.ticks + 1;
                short = short_on now (omega arith);
                paid = omega (arith, paid-on now (omega arith), work-ends);
                job = λ some. omega (arith, own-job now (omega (arith, left-ends i enough.here)), rest-ends i enough.here);
              }

      -- No job of i is missed.
      pub none-missed : Window before gap → is_missed (worked-on i) ≡ false
      unfolding is_missed is_last is_ready
      none-missed window = go (ℕ_discrete (worked-on i).left 0)
        where
          now : Window started gap
          now = window-enters window

          go : Dec ((worked-on i).left ≡ 0) → (leb (worked-on i).rest 1 && not (eqb (worked-on i).left 0)) ≡ false
          go (yes none) = simp (none, and-false (leb (worked-on i).rest 1))
          go (no some) =
              let ahead : 1 < (worked-on i).rest = omega (arith, short_on now (omega (arith, own-work worked-on)), own-job now (omega arith), rest-runs i enough.here, enough.timely) in
              simp (lt-leb (worked-on i).rest 1 ahead)

      -- A job of i that runs, and so one that finishes, was released less than L ticks before.
      pub runs-within : Window before gap → runs who i ≡ true → (tasks i).deadline < (started i).rest + L
      runs-within window mine = let now = window-enters window in omega (arith, now.job (runner-ready i mine), now.short)
