-- Ask 12 in its own words, about the definitions that the public calls promise, as the case q = p of the theorem about the assured equation. A replay that is not refused has a good sheet for the whole processor and a log that keeps ask 1's rules; nothing else is asked of the log, and its length has no bound. Assumes nothing.
use Prim.Native.Nat.{ℕ, ◌+◌, ◌-◌, ◌%◌, ◌^◌, ◌≤◌, ◌<◌}
use mathlib.Core.Path.{◌≡◌, refl, sym, ap, subst, ◌∙◌}
use mathlib.Core.Bool.{Bool, true, false, cond, true≢false}
use mathlib.Core.List.{List}
use mathlib.Mathlib.Data.Bool.Basic.{eq-false_of_not-eq-true}
use native.Mathlib.Decide.{dec_lt}
use native.Mathlib.Omega.{arith}
use borrow.Author.Tests.{eqb-false, ltb-false, lt-ltb}
use lib.Dec.{eqb, ltb}
use Rattle.places.specs.Places.{count_below}
use Rattle.places.specs.Refusals.{or_else}
use Rattle.places.proofs.Tells.{neither}
use Rattle.places.proofs.Onto.{onto}
use Rattle.places.proofs.Refusals.{next-of}
use Rattle.sheet.specs.declared.Table.{Table}
use Rattle.sheet.specs.Layout.{record_at, table_of}
use Rattle.sheet.specs.Rules.{sheet_refusal, table_refusal}
use Rattle.sheet.proofs.Cases.{good-table}
use Rattle.sheet.proofs.Demands.{table-good}
use Rattle.analysis.specs.Common.Tasks.{Tasks, own_choice}
use Rattle.analysis.specs.declared.Outcome.TheVariants.{OnTime, Late}
use Rattle.analysis.specs.Published.Response.{response_time, late, passes}
use Rattle.analysis.specs.Common.Entries.{is_late, outcome_of, entry_from, own_tasks, assessed}
use Rattle.analysis.specs.Published.Answers.{entry_of, timed_refusal, timed_answer, choice_refusal, choice_assessment, own_assessment}
use Rattle.analysis.specs.Assured.Equation.{assured_equation}
use Rattle.analysis.specs.Assured.Time.{assured_within}
use Rattle.analysis.proofs.Laws.Common.Climbing.{Least, least-says}
use Rattle.analysis.proofs.Demands.{passes-exactly}
use Rattle.analysis.proofs.Laws.Assured.Raised.{assured-response}
use Rattle.replay.specs.declared.Cell.{Cell}
use Rattle.replay.specs.declared.Counts.{Counts}
use Rattle.replay.specs.declared.Machine.{Machine}
use Rattle.replay.specs.Ticks.Counts.{gains, added, counts_from}
use Rattle.replay.specs.Ticks.Machines.{machine_of, tick_gains}
use Rattle.replay.specs.Logs.Rules.{ticks_refusal}
use Rattle.replay.specs.Logs.Answers.{replay_refusal, replay_answer}
use Rattle.replay.specs.Logs.Positions.{ticks_of, releases_at, faults_at}
use Rattle.replay.specs.Logs.Totals.{machine_at}
use Rattle.replay.proofs.OfLogs.Joined.{accepted}
use Rattle.replay.proofs.OfLogs.Kept.{done-count}
use Rattle.replay.proofs.Demands.{sheet-passed, log-passed, counts-wrap}
use Rattle.runs.specs.Raised.{EachRaised}
use Rattle.runs.specs.Ticks.{place_of, cell_in, misses_at, finishes_at, ReleasedAt}
use Rattle.runs.proofs.Equation.{places, record-good, fault-own}
use Rattle.runs.proofs.Along.{Sound, sound-at, past-misses-none, misses-none, finished-within, none-total}
use Rattle.runs.proofs.Started.{free, sound-start, open-start}

-- the least L within a limit, where there is one, is at least what is asked of it
pub equation-fits : (limit : ℕ) (s : Tasks) (i : ℕ) → 1 ≤ assured_within limit s i → assured_equation s i (assured_within limit s i) ≤ assured_within limit s i
unfolding assured_within
equation-fits limit s i some = go (least-says (assured_equation s i) 1 limit) some
  where
    go : {r : ℕ} → Least (assured_equation s i) 1 limit r → 1 ≤ r → assured_equation s i r ≤ r
    go (Least.none short) there = absurd (omega arith)
    go (Least.least first last fits short) there = fits

-- a time that is not late is one, within the deadline
on-time-within : (deadline time : ℕ) → is_late deadline time ≡ false → (1 ≤ time) × (time ≤ deadline)
unfolding is_late
on-time-within deadline time e =
    let both = neither (eqb time 0) (ltb deadline time) e in
    let some = eqb-false time 0 both.0 in
    (omega arith, ltb-false deadline time both.1)

-- the word late is no time
outcome-time : (deadline time R : ℕ) → outcome_of deadline time ≡ OnTime R → (is_late deadline time ≡ false) × (time ≡ R)
unfolding outcome_of
outcome-time deadline time R e = go (is_late deadline time) e
  where
    go : (b : Bool) → cond b Late (OnTime time) ≡ OnTime R → (b ≡ false) × (time ≡ R)
    go true e = let z : ◌≡◌ {A = ℕ} 0 1 = cc in absurd (omega arith)
    go false e = (refl, (cc))

-- A log that the replay accepts, of any length
module _ (sheet log : List ℕ) (not-refused : (replay_answer sheet log).refusal ≡ 0) where
  abbrev table : Table
  table = table_of sheet

  abbrev tasks : Tasks
  tasks = own_tasks table

  abbrev start : Machine
  start = machine_of table

  passed : replay_refusal sheet log ≡ 0
  unfolding replay_answer
  passed = not-refused

  good : sheet_refusal sheet ≡ 0
  good = sheet-passed sheet log passed

  sound : Sound start
  sound = sound-start sheet good

  kept : ticks_refusal start log ≡ 0
  kept = (accepted start log (log-passed sheet log passed)).1

  -- what the ticks are said to finish and to miss is what the replay counts
  pub finishes-counted : (time : ℕ) → time < ticks_of log
      → (tick_gains (machine_at start log time) (releases_at log time) (faults_at log time)).finished ≡ count_below (λ place. finishes_at start log place time) 8
  unfolding finishes_at cell_in
  finishes-counted time within = done-count (machine_at start log time) (releases_at log time) (faults_at log time) (sound-at start log sound kept time (omega arith)).good

  pub misses-counted : (time : ℕ) → (tick_gains (machine_at start log time) (releases_at log time) (faults_at log time)).missed ≡ count_below (λ place. misses_at start log place time) 8
  unfolding misses_at cell_in tick_gains gains
  misses-counted time = refl

  -- Under any fault priorities, each at most its priority: for a task whose assured equation has some value L within its deadline
  module _ (j : ℕ) (below : j < table.count) (L : ℕ) (fits : assured_equation tasks j L ≤ L) (timely : L ≤ (record_at table.records j).deadline) where
    -- no job of the task is missed in any tick
    pub equation-misses-none : (time : ℕ) → time < ticks_of log → misses_at start log (place_of table j) time ≡ false
    equation-misses-none = misses-none start log sound kept (place_of table j) _ L (open-start sheet good j below L fits timely)

    -- and each that is finished is done within L ticks of its release, the release tick being the first
    pub equation-finished-within : (time : ℕ) → time < ticks_of log → finishes_at start log (place_of table j) time ≡ true → (release : ℕ) × ReleasedAt log (place_of table j) time release × (time < release + L)
    equation-finished-within time within done =
        let opened = open-start sheet good j below L fits timely in
        finished-within start log sound kept (place_of table j) _ L opened time within
        (ap (λ (c : Cell). c.rest) (free sheet good (place_of table j) opened.enough.here)) done

  -- every task has a value within its deadline
  abbrev EachEnough : Type 0
  EachEnough = (j : ℕ) → j < table.count → (L : ℕ) × (assured_equation tasks j L ≤ L) × (L ≤ (record_at table.records j).deadline)

  -- where each task has such a value, no tick misses a job at any place
  pub equation-nowhere-missed : EachEnough → (place time : ℕ) → place < 8 → time < ticks_of log → misses_at start log place time ≡ false
  unfolding machine_of
  equation-nowhere-missed each place time below within = go (dec_lt place table.count)
    where
      go : Dec (place < table.count) → misses_at start log place time ≡ false
      go (yes low-place) =
          let found = onto table.count (place_of table) (places sheet good) place low-place in
          let value = each found.0 found.1 in
          subst (λ (k : ℕ). misses_at start log k time ≡ false) found.2 (equation-misses-none found.0 found.1 value.0 value.1 value.2 time within)
      go (no past) = past-misses-none start log sound kept place time (omega arith) below within

  -- and the count of missed jobs is 0
  pub equation-none-missed : EachEnough → (replay_answer sheet log).counts.missed ≡ 0
  unfolding counts_from added
  equation-none-missed each = ap (λ (c : Counts). c.missed) (counts-wrap sheet log passed) ∙ ap (λ (n : ℕ). (0 + n) % 2 ^ 64) (none-total start log (equation-nowhere-missed each))

  -- For a task whose q is its p, whatever those of the others are
  module _ (j : ℕ) (below : j < table.count) (raised : (record_at table.records j).fault_priority ≡ (record_at table.records j).priority) where
    -- its assured time is its response time
    pub raised-response : assured_within 65535 tasks j ≡ response_time tasks j
    unfolding response_time
    raised-response =
        let known = good-table table (table-good sheet good) in
        assured-response tasks j below (let some = known.interval in omega arith) (fault-own sheet good j below ∙ raised)
        (λ k low-k. omega (arith, fault-own sheet good k low-k, (record-good sheet good k low-k).fault))
        (λ k low-k same. (places sheet good).apart k j low-k below (ap (λ (n : ℕ). n - 1) same)) 65535

    -- which is a value within the deadline where the task is not late
    response-value : late tasks j ≡ false → (assured_equation tasks j (response_time tasks j) ≤ response_time tasks j) × (response_time tasks j ≤ (record_at table.records j).deadline)
    response-value is =
        let known = on-time-within (record_at table.records j).deadline (response_time tasks j) is in
        (subst (λ (n : ℕ). assured_equation tasks j n ≤ n) raised-response (equation-fits 65535 tasks j (omega (arith, raised-response, known.0))), known.1)

    -- Where `response_time` gives it a figure
    module _ (R : ℕ) (figure : (timed_answer table j).entry.outcome ≡ OnTime R) where
      -- that is its response time, and it is not late
      figure-time : (late tasks j ≡ false) × (response_time tasks j ≡ R)
      unfolding timed_answer timed_refusal entry_of entry_from
      figure-time =
          let asked : or_else (table_refusal table) (cond (ltb j table.count) 0 12) ≡ 0 = next-of _ (table-good sheet good) ∙ simp (lt-ltb j table.count below) in
          let outcome : outcome_of (record_at table.records j).deadline (response_time tasks j) ≡ OnTime R = simp asked at figure in
          outcome-time (record_at table.records j).deadline (response_time tasks j) R outcome

      figure-value : (assured_equation tasks j R ≤ R) × (R ≤ (record_at table.records j).deadline)
      figure-value = subst (λ (n : ℕ). (assured_equation tasks j n ≤ n) × (n ≤ (record_at table.records j).deadline)) figure-time.1 (response-value figure-time.0)

      -- no job of the task is missed
      pub task-misses-none : (time : ℕ) → time < ticks_of log → misses_at start log (place_of table j) time ≡ false
      task-misses-none = equation-misses-none j below R figure-value.0 figure-value.1

      -- and each that is finished is "done within its task's response time from its release": the figure bounds what any log can show
      pub finished-within-response : (time : ℕ) → time < ticks_of log → finishes_at start log (place_of table j) time ≡ true → (release : ℕ) × ReleasedAt log (place_of table j) time release × (time < release + R)
      finished-within-response = equation-finished-within j below R figure-value.0 figure-value.1

  -- "in which each q equals p and no task is late"
  module _ (raised : EachRaised table) where
    each-value : (own_assessment table).passes ≡ true → EachEnough
    unfolding own_assessment choice_assessment assessed
    each-value verdict j below =
        let on-time = (passes-exactly tasks).0 (yes-passes (eqb (choice_refusal table (own_choice table)) 0) (passes tasks) verdict) j below in
        let value = response-value j below (raised j below) on-time in
        (response_time tasks j, value.0, value.1)
      where
        yes-passes : (b yes_or_no : Bool) → cond b yes_or_no false ≡ true → yes_or_no ≡ true
        yes-passes true yes_or_no e = e
        yes-passes false yes_or_no e = absurd (true≢false (sym e))

    -- "no job misses in any replay log that Ask 1 accepts, of any length": where the verdict of `assess` is yes, the count of missed jobs of `replay` is 0
    pub no-job-missed : (own_assessment table).passes ≡ true → (replay_answer sheet log).counts.missed ≡ 0
    no-job-missed verdict = equation-none-missed (each-value verdict)

    -- so a run that misses refutes the verdict
    pub miss-refutes : ((replay_answer sheet log).counts.missed ≡ 0 → ⊥) → (own_assessment table).passes ≡ false
    miss-refutes some = eq-false_of_not-eq-true {b = (own_assessment table).passes} (λ verdict. some (no-job-missed verdict))

    -- and one tick of it that misses, without counting
    pub tick-refutes : (place time : ℕ) → place < 8 → time < ticks_of log → misses_at start log place time ≡ true → (own_assessment table).passes ≡ false
    tick-refutes place time below within miss = eq-false_of_not-eq-true {b = (own_assessment table).passes} (λ verdict. true≢false (sym miss ∙ equation-nowhere-missed (each-value verdict) place time below within))
