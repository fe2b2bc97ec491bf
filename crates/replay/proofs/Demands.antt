-- Request 1's demands, with request 6's refusal 19, in their own words, about the definitions that the promises cite. That a refusal is the first rule broken, a log's read over positions in the log, is `replay-in-order`, and of a start and of going on alone `whole-in-order` and `log-in-order` of Order.antt; the log of request 3 is in Rows.antt. Assumes nothing.
use Rattle.std.proofs.Common.{◌≡◌, ℕ, ◌+◌, ◌/◌, ◌%◌, ◌^◌, ◌<◌, ◌≤◌, Bool, true, false, cond, eqb, ◌↔◌, List, [], ◌∷◌, ◌++◌, length, replicate, sym, refl, ap, ◌∙◌, ⊎_elim, true≢false, arith, length-append, eq-eqb, ne_eqb}
use native.Mathlib.Decide.{ℕ_discrete}
use lib.ListN.{get_or-replicate}
use Rattle.places.specs.Refusals.{InOrder}
use Rattle.places.proofs.Counted.{count_none}
use Rattle.places.proofs.Refusals.{next-of, none_of, first_of}
use Rattle.places.proofs.Order.{Says, in_order}
use Rattle.sheet.specs.Layout.{record_at, table_of}
use Rattle.sheet.specs.Rules.{sheet_refusal, shared_refusal, whole_sheet_refusal}
use Rattle.sheet.specs.Broken.{whole_rows}
use Rattle.sheet.proofs.Order.{sheet-in-order, whole_tells}
use Rattle.sheet.proofs.Refused.{given-unless}
use Rattle.sheet.specs.declared.Record.{Record}
use Rattle.replay.specs.declared.Cell.{Cell}
use Rattle.replay.specs.declared.Tally.{Tally}
use Rattle.replay.specs.declared.Counts.{Counts}
use Rattle.replay.specs.declared.Machine.{Machine}
use Rattle.replay.specs.declared.Following.{Following}
use Rattle.replay.specs.Ticks.Tick.{is_released, is_marked}
use Rattle.replay.specs.Ticks.Cells.{no_cell, cell_at, is_ready}
use Rattle.replay.specs.Ticks.Runner.{priority_of}
use Rattle.replay.specs.Ticks.Step.{runs, worked, struck}
use Rattle.replay.specs.Ticks.Counts.{no_tally, added, unfinished_in, counts_from}
use Rattle.replay.specs.Ticks.Machines.{machine_of, no_machine, IsTied, tied, cells_entered, runner_of, cells_ran, tick, counts_of}
use Rattle.replay.specs.Logs.Over.{ran_over}
use Rattle.replay.specs.Logs.Rules.{ticks_refusal, log_refusal}
use Rattle.replay.specs.Logs.Answers.{start_answer, go_on_answer, replay_refusal, replay_answer}
use Rattle.replay.specs.Logs.Pieces.{tied_in, taken_answer}
use Rattle.replay.specs.Logs.Totals.{machine_at, totals_over}
use Rattle.replay.specs.Logs.Positions.{releases_at, log_rows, LogNumber, ReplayNumber}
use Rattle.replay.proofs.OfTicks.Struck.{others-kept, runner-changed}
use Rattle.replay.proofs.OfTicks.Ready.{none-tied, tied-tied, tied-same, ran-tied, refusal-any}
use Rattle.replay.proofs.OfLogs.Joined.{accepted, ran-joined, ticks-joined, refusal-joined}
use Rattle.replay.proofs.OfLogs.Going.{even-ticks}
use Rattle.replay.proofs.OfLogs.Answered.{replay-gone}
use Rattle.replay.proofs.OfLogs.Stepped.{tied-in, bytes-tied}
use Rattle.replay.proofs.OfTicks.Ordered.{GoesFirst, runs-first, idle-none, none-idle}
use Rattle.replay.proofs.OfLogs.Added.{Below, widen, tally-wraps, totals-small, added-exact, ticks-add-up}
use Rattle.replay.proofs.OfTicks.Started.{faults-small, task-good, OfTable, task-of-sheet}
use Rattle.replay.proofs.OfLogs.Kept.{GoodTasks, AllTimely, jobs-add-up}
use Rattle.replay.proofs.OfTicks.Ticked.{ran-at}
use Rattle.replay.proofs.OfLogs.Countdown.{reaches}
use Rattle.replay.proofs.OfLogs.History.{rest-counts, job-in-time}
use Rattle.replay.proofs.OfLogs.Order.{log-positive, log-says, both-in-order}

-- Which job runs, in a machine whose fault priorities are at most 8, as those of every sheet are (`priorities-started`)
module _ (m : Machine) (releases : ℕ) (priorities : (slot : ℕ) → (record_at m.tasks slot).fault_priority ≤ 8) where
  -- "the ready job of the highest present level runs one tick .. At one level backups go before first attempts, and of two backups the task with the higher own priority goes first": the job that runs is ready, and goes before every other ready job
  pub runner-goes-first : (slot : ℕ) → runner_of m releases ≡ slot + 1 → GoesFirst (record_at m.tasks) (cell_at (cells_entered m releases)) slot
  unfolding runner_of
  runner-goes-first slot e = runs-first (record_at m.tasks) (cell_at (cells_entered m releases)) priorities slot e

  -- nothing runs exactly if nothing is ready
  pub idle-exactly : (runner_of m releases ≡ 0) ↔ ((slot : ℕ) → slot < 8 → is_ready (cell_at (cells_entered m releases) slot) ≡ false)
  unfolding runner_of
  idle-exactly = (idle-none (record_at m.tasks) (cell_at (cells_entered m releases)) priorities, none-idle (record_at m.tasks) (cell_at (cells_entered m releases)) priorities)

-- "The set of ready levels is kept as bits": every machine that is handed back has the priorities of its own ready jobs, whichever it was handed in with; a start alike (`start-tied`), and "the highest is found by counting leading zeros" in them (`highest-priority`)
pub go-on-keeps : (m : Machine) (part : List ℕ) → IsTied (go_on_answer m part).machine
unfolding go_on_answer
go-on-keeps m part = go (eqb (log_refusal m part) 0)
  where
    go : (b : Bool) → IsTied (cond b (ran_over (tied m) part) no_machine)
    go true = ran-tied (tied m) part (tied-tied m)
    go false = none-tied

pub take-keeps : (f : Following) (piece : List ℕ) → IsTied (taken_answer f piece).machine
unfolding taken_answer
take-keeps f piece = bytes-tied (tied_in f) piece (tied-in f)

-- the tasks of a machine never change
pub tasks-stay : (m : Machine) (log : List ℕ) → (ran_over m log).tasks ≡ m.tasks
unfolding ran_over tick
tasks-stay m [] = refl
tasks-stay m (r ∷ []) = refl
tasks-stay m (r ∷ f ∷ log) = tasks-stay (tick m r f) log

pub priorities-started : (sheet log : List ℕ) → sheet_refusal sheet ≡ 0 → (slot : ℕ) → (record_at (ran_over (machine_of (table_of sheet)) log).tasks slot).fault_priority ≤ 8
priorities-started sheet log good slot = rw (tasks-stay (machine_of (table_of sheet)) log) (faults-small sheet good slot)

-- a job with its whole backup left, at its task's fault priority
pub record WholeBackup (task : Record) (slot : ℕ) (cell : Cell) : Type 0 where
  pub backup : cell.is_backup ≡ true
  pub whole : cell.left ≡ task.backup
  pub priority : priority_of task slot cell ≡ task.fault_priority

module _ (m : Machine) (releases faults slot : ℕ) (below : slot < 8) where
  -- "then a fault, if marked, throws that job's work away, even if complete, and puts its full backup at its fault priority": whatever was left of the job, and whether it was a first attempt or a backup
  pub struck-whole : is_marked faults ≡ true → runner_of m releases ≡ slot + 1 → WholeBackup (record_at m.tasks slot) slot (cell_at (cells_ran m releases faults) slot)
  unfolding runs priority_of
  struck-whole marked e =
      let task = record_at m.tasks slot in
      let job = worked (cell_at (cells_entered m releases) slot) in
      let now : cell_at (cells_ran m releases faults) slot ≡ struck task job =
      ran-at m releases faults slot below ∙ runner-changed (record_at m.tasks) (is_marked faults) (runner_of m releases) (cell_at (cells_entered m releases)) slot (eq-eqb (slot + 1) (runner_of m releases) (sym e))
      ∙ ap (λ (b : Bool). cond b (struck task job) job) marked in
      record { backup = ap (λ (c : Cell). c.is_backup) now; whole = ap (λ (c : Cell). c.left) now; priority = ap (priority_of task slot) now }

  -- "A fault in an idle tick does nothing."
  pub idle-untouched : runner_of m releases ≡ 0 → cell_at (cells_ran m releases faults) slot ≡ cell_at (cells_entered m releases) slot
  unfolding runs
  idle-untouched e = ran-at m releases faults slot below ∙ others-kept (record_at m.tasks) (is_marked faults) (runner_of m releases) (cell_at (cells_entered m releases)) slot (ne_eqb (slot + 1) (runner_of m releases) (λ h. omega arith))

-- two parts one after the other give what their joining gives: going on over the second from where an accepted first part led
pub parts-joined : (m : Machine) (a b : List ℕ) → log_refusal m a ≡ 0 → go_on_answer (go_on_answer m a).machine b ≡ go_on_answer m (a ++ b)
unfolding go_on_answer
parts-joined m a b passed =
    let first = accepted (tied m) a (refusal-any m a ∙ passed) in
    let refusal = sym (refusal-joined (tied m) a b first.0 first.1) ∙ refusal-any m (a ++ b) in
    let machine = ap (λ (m' : Machine). ran_over m' b) (tied-same (ran_over (tied m) a) (ran-tied (tied m) a (tied-tied m))) ∙ sym (ran-joined (tied m) a b first.0) in
    ap (λ (n : ℕ). go_on_answer (cond (eqb n 0) (ran_over (tied m) a) no_machine) b) passed
    ∙ (λ i. record { refusal = refusal i; machine = cond (eqb (refusal i) 0) (machine i) no_machine })

-- and a first part of even length that is refused gives the refusal of the whole, where that has even length
pub refused-joined : (m : Machine) (a b : List ℕ) → length a % 2 ≡ 0 → length b % 2 ≡ 0 → (log_refusal m a ≡ 0 → ⊥) → go_on_answer m a ≡ go_on_answer m (a ++ b)
unfolding go_on_answer
refused-joined m a b even even' broken =
    let bad : ticks_refusal m a ≡ 0 → ⊥ = λ e. broken (even-ticks m a even ∙ e) in
    let same : log_refusal m (a ++ b) ≡ log_refusal m a = even-ticks m (a ++ b) (omega (arith, length-append a b)) ∙ ticks-joined m a b even ∙ first_of (ticks_refusal m a) (ticks_refusal (ran_over m a) b) bad ∙ sym (even-ticks m a even) in
    simp (same, ne_eqb (log_refusal m a) 0 broken)

-- a replay is a start, a going on over the whole log, and the counts of where that led
pub replay-by-parts : (sheet log : List ℕ) → whole_sheet_refusal sheet ≡ 0
    → replay_answer sheet log ≡ record { refusal = (go_on_answer (start_answer sheet).machine log).refusal; counts = counts_of (go_on_answer (start_answer sheet).machine log).machine }
unfolding start_answer
replay-by-parts sheet log good = sym (replay-gone sheet log (start_answer sheet) refl good (go_on_answer (start_answer sheet).machine log) refl _ refl)

pub started-free : (slot : ℕ) → slot < 8 → cell_at (replicate 8 no_cell) slot ≡ no_cell
unfolding cell_at
started-free slot below = get_or-replicate 8 slot no_cell no_cell below

nothing-ready : is_ready no_cell ≡ false
unfolding is_ready
nothing-ready = refl

module _ (sheet log : List ℕ) where
  -- a start that is refused decides
  pub start_first : (whole_sheet_refusal sheet ≡ 0 → ⊥) → replay_refusal sheet log ≡ whole_sheet_refusal sheet
  unfolding replay_refusal
  start_first broken = first_of (whole_sheet_refusal sheet) (log_refusal (machine_of (table_of sheet)) log) broken

  -- "Refusals, after a sheet's": a sheet that is refused decides
  pub sheet-first : (sheet_refusal sheet ≡ 0 → ⊥) → replay_refusal sheet log ≡ sheet_refusal sheet
  unfolding whole_sheet_refusal
  sheet-first broken =
      let same : whole_sheet_refusal sheet ≡ sheet_refusal sheet = first_of (sheet_refusal sheet) (shared_refusal (table_of sheet)) broken in
      start_first (λ e. broken (sym same ∙ e)) ∙ same

  -- what the refusal of the log says of it, where the machine starts anew
  log-rows : Says LogNumber (log_rows (table_of sheet).count (table_of sheet).interval (record_at (machine_of (table_of sheet)).tasks) log) (log_refusal (machine_of (table_of sheet)) log)
  unfolding machine_of
  log-rows = log-says (machine_of (table_of sheet)) log (λ slot below. ap (λ (c : Cell). c.wait) (started-free slot below)) refl

  -- "19, after a sheet's own", then "14 odd length, then tick by tick 15 .. 16 .. 17": the refusal is the first rule broken, a sheet's own first, then 19, then the log's in the first tick that breaks one, read over positions in the log
  pub replay-in-order : InOrder ReplayNumber (whole_rows sheet ++ log_rows (table_of sheet).count (table_of sheet).interval (record_at (machine_of (table_of sheet)).tasks) log) (replay_refusal sheet log)
  unfolding replay_refusal
  replay-in-order = both-in-order sheet log-rows

  -- "replay gives 19, after a sheet's own, for a shared processor"
  pub replay-19 : (replay_refusal sheet log ≡ 19) ↔ ((sheet_refusal sheet ≡ 0) × (((table_of sheet).round ≡ 1) × ((table_of sheet).share ≡ 1) → ⊥))
  unfolding replay_refusal whole_sheet_refusal shared_refusal
  replay-19 = (λ e. given.0 (go (ℕ_discrete (whole_sheet_refusal sheet) 0) e), λ h. start_first (λ z. omega (arith, given.1 h)) ∙ given.1 h)
    where
      given : (whole_sheet_refusal sheet ≡ 19) ↔ ((sheet_refusal sheet ≡ 0) × (((table_of sheet).round ≡ 1) × ((table_of sheet).share ≡ 1) → ⊥))
      given = given-unless (sheet_refusal sheet) 19 (sheet-in-order sheet).range (omega arith) (whole_tells (table_of sheet).round (table_of sheet).share)

      go : Dec (whole_sheet_refusal sheet ≡ 0) → replay_refusal sheet log ≡ 19 → whole_sheet_refusal sheet ≡ 19
      go (yes good) e = ⊎_elim (λ z. absurd (omega (arith, z, sym (next-of _ good) ∙ e))) (λ h. absurd (omega (arith, h, sym (next-of _ good) ∙ e))) (in_order log-positive log-rows).range
      go (no broken) e = sym (start_first broken) ∙ e

-- the task that the rules find at a slot of a good sheet's machine is the sheet's record of that priority
pub tasks-by-priority : (sheet log : List ℕ) → sheet_refusal sheet ≡ 0 → (slot : ℕ) → slot < (table_of sheet).count → OfTable (table_of sheet) slot (record_at (machine_of (table_of sheet)).tasks slot)
tasks-by-priority sheet log good = task-of-sheet sheet good

-- "A job still unfinished when its D-th tick, the release tick being the first, ends is dropped": a job that is there before the tick at a time was released less than D ticks before it
pub job-within-deadline : (sheet log : List ℕ) (slot : ℕ) → slot < 8 → (time : ℕ) → is_ready (cell_at (machine_at (machine_of (table_of sheet)) log time).cells slot) ≡ true
    → (release : ℕ) × (release < time) × (is_released (releases_at log release) slot ≡ true) × (time < release + (record_at (machine_of (table_of sheet)).tasks slot).deadline)
unfolding machine_of
job-within-deadline sheet log slot below time ready =
    let m = machine_of (table_of sheet) in
    let none : is_ready (cell_at m.cells slot) ≡ false = ap is_ready (started-free slot below) ∙ nothing-ready in
    let rest = rest-counts m log slot below (ap (λ (c : Cell). c.rest) (started-free slot below)) time in
    let some = (reaches (λ t. is_released (releases_at log t) slot) (record_at m.tasks slot).deadline time 0).0 (omega (arith, rest, job-in-time m log slot below none time ready)) in
    (some.0, some.1, some.2, omega (arith, some.3))

-- The counts of a log that is accepted
module _ (sheet log : List ℕ) (passed : replay_refusal sheet log ≡ 0) where
  abbrev start : Machine
  start = machine_of (table_of sheet)

  abbrev counts : Counts
  counts = (replay_answer sheet log).counts

  pub sheet-passed : sheet_refusal sheet ≡ 0
  unfolding replay_refusal whole_sheet_refusal
  sheet-passed = (none_of (sheet_refusal sheet) (shared_refusal (table_of sheet)) (none_of (whole_sheet_refusal sheet) (log_refusal start log) passed).0).0

  pub log-passed : log_refusal start log ≡ 0
  unfolding replay_refusal
  log-passed = (none_of (whole_sheet_refusal sheet) (log_refusal start log) passed).1

  start_small : Below (2 ^ 64) start.tally
  unfolding machine_of
  start_small = record { first_attempts = omega arith; backups = omega arith; idle = omega arith; released = omega arith; finished = omega arith; missed = omega arith }

  -- on 64 bits: the true totals' remainders by 2 ^ 64, beside the jobs that have work left
  pub counts-wrap : counts ≡ counts_from (added no_tally (totals_over start log)) (unfinished_in (ran_over start log).cells)
  unfolding replay_answer counts_of machine_of
  counts-wrap = simp passed (ap (λ (t : Tally). counts_from t (unfinished_in (ran_over start log).cells)) (tally-wraps start log start_small))

  module _ (short : length log < 2 ^ 61) where
    -- below 2 ^ 61 bytes they are the true counts
    pub counts-true : counts ≡ counts_from (totals_over start log) (unfinished_in (ran_over start log).cells)
    counts-true = counts-wrap ∙ ap (λ (t : Tally). counts_from t (unfinished_in (ran_over start log).cells)) (added-exact (totals_over start log) (widen (totals-small start log) (omega arith)))

    -- "ticks of first attempts, backups and idling (together all ticks)"
    pub ticks-together : counts.first_attempts + counts.backups + counts.idle ≡ length log / 2
    unfolding counts_from
    ticks-together = ap (λ (c : Counts). c.first_attempts + c.backups + c.idle) counts-true ∙ ticks-add-up start log

    good-tasks : GoodTasks start
    unfolding machine_of
    good-tasks = record { each = task-good sheet sheet-passed; priorities = faults-small sheet sheet-passed }

    none-ready : (slot : ℕ) → slot < 8 → is_ready (cell_at start.cells slot) ≡ false
    unfolding machine_of
    none-ready slot below = ap is_ready (started-free slot below) ∙ nothing-ready

    -- "jobs released and, adding up to them, finished, missed and unfinished"
    pub jobs-together : counts.finished + counts.missed + counts.unfinished ≡ counts.released
    unfolding counts_from unfinished_in
    jobs-together =
        let timely : AllTimely start = λ slot below ready. absurd (true≢false (sym ready ∙ none-ready slot below)) in
        let none = count_none (λ slot. is_ready (cell_at start.cells slot)) 8 none-ready in
        let jobs = jobs-add-up start log good-tasks timely (accepted start log log-passed).1 in
        ap (λ (c : Counts). c.finished + c.missed + c.unfinished) counts-true ∙ omega (arith, jobs, none) ∙ sym (ap (λ (c : Counts). c.released) counts-true)
