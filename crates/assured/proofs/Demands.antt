-- The theorems about assured choices in the issue's words, about the definitions that the public calls promise: what they say of runs, how they stand to the published equations, and that walk and list give each of them once. Assumes nothing.
use Prim.Native.Nat.{ℕ, ◌+◌, ◌-◌, ◌*◌, ◌≤◌, ◌<◌}
use mathlib.Core.Path.{◌≡◌, refl, sym, ap, subst, ◌∙◌}
use mathlib.Core.Bool.{Bool, true, false, not, true≢false}
use mathlib.Core.List.{List, [], Memᴰ as In}
use mathlib.Core.Logic.{◌↔◌}
use native.Mathlib.Omega.{arith}
use borrow.Author.Tests.{not-true}
use lib.ListN.{length, get_or, take, drop}
use Rattle.places.specs.Places.{some_below}
use Rattle.places.proofs.Agree.{some-agree}
use Rattle.places.proofs.Some.{some-found}
use Rattle.places.proofs.Refusals.{next-of}
use Rattle.sheet.specs.declared.Table.{Table}
use Rattle.sheet.specs.Layout.{record_at, table_of}
use Rattle.sheet.specs.Rules.{sheet_refusal, table_refusal}
use Rattle.sheet.proofs.Cases.{good-table}
use Rattle.sheet.proofs.Demands.{table-good}
use Rattle.sheet.proofs.Ranks.{ranked}
use Rattle.analysis.specs.declared.Rule.TheVariants.{Assured}
use Rattle.analysis.specs.Common.Tasks.{Tasks, tasks_of}
use Rattle.analysis.specs.Common.Backups.{backup_from_fault}
use Rattle.analysis.specs.Published.Response.{response_time, late, passes}
use Rattle.analysis.specs.Assured.Equation.{assured_equation}
use Rattle.analysis.specs.Assured.Time.{assured_within, assured_time, unassured, assured}
use Rattle.analysis.specs.Common.Entries.{own_tasks}
use Rattle.analysis.proofs.Laws.Common.Choice.{Allowed}
use Rattle.analysis.proofs.Laws.ByRule.{rule-good}
use Rattle.analysis.proofs.Laws.Assured.Asked.{raised-unassured}
use Rattle.analysis.proofs.Laws.Assured.Raised.{assured-response}
use Rattle.analysis.proofs.Laws.Common.Verdicts.{on-time-within, within-on-time}
use Rattle.replay.specs.Ticks.Machines.{machine_of}
use Rattle.replay.specs.Logs.Answers.{replay_answer}
use Rattle.replay.specs.Logs.Positions.{ticks_of}
use Rattle.replay.proofs.Demands.{sheet-passed}
use Rattle.choices.specs.declared.Walk.{Walk}
use Rattle.choices.specs.Told.Arrival.{Found, End}
use Rattle.choices.specs.Order.{before}
use Rattle.choices.specs.Answers.{entry_bytes}
use Rattle.choices.proofs.Advancing.{starts}
use Rattle.choices.proofs.Demands.{MayStart, FirstAfter, walk_after, listed-exactly, listed-ascending, listed-once, first-given, gives-first, end-exactly, visits-each, ends_last, list_put}
use Rattle.runs.specs.Ticks.{place_of, misses_at, finishes_at, ReleasedAt}
use Rattle.runs.proofs.Demands.{equation-fits, equation-misses-none, equation-finished-within, equation-none-missed}
use Rattle.assured.specs.Answers.{assured_of, assured_refusal, step_refusal, step_answer, list_refusal, list_leaves}
use Rattle.assured.specs.Replaced.{replaced}
use Rattle.assured.proofs.Answered.{refusal-assured}
use Rattle.assured.proofs.Replacing.{replaced-time, replaced-assured}
use Rattle.assured.proofs.Request.{costs_between, assured-no-later}

-- "a choice is assured if every task has" an assured time
pub assured-exactly : (s : Tasks) → assured s ≡ true → (i : ℕ) → i < s.count → unassured s i ≡ false
unfolding assured
assured-exactly s e i below = go (unassured s i) refl
  where
    go : (b : Bool) → unassured s i ≡ b → b ≡ false
    go true is = absurd (true≢false (sym (some-found (unassured s) i s.count below is) ∙ not-true (some_below (unassured s) s.count) e))
    go false is = refl

-- which is a value of the assured equation within the deadline
assured-value : (s : Tasks) (i : ℕ) → unassured s i ≡ false → (assured_equation s i (assured_time s i) ≤ assured_time s i) × (assured_time s i ≤ (s.at i).deadline)
unfolding assured_time
assured-value s i is =
    let known = on-time-within (s.at i).deadline (assured_within 65535 s i) is in
    (equation-fits 65535 s i known.0, known.1)

-- A table, "any choice that is assured (the sheet's own q replaced by it)", and a log that replay accepts of that sheet, of any length
module _ (t : Table) (choice : List ℕ) (sheet log : List ℕ) (is : table_of sheet ≡ replaced t choice) (accepted : (replay_answer sheet log).refusal ≡ 0) where
  good : sheet_refusal sheet ≡ 0
  unfolding replay_answer
  good = sheet-passed sheet log accepted

  few : t.count ≤ 8
  unfolding replaced
  few = subst (λ (n : ℕ). n ≤ 8) (ap (λ (x : Table). x.count) is) (good-table (table_of sheet) (table-good sheet good)).count.1

  same_count : (table_of sheet).count ≡ t.count
  unfolding replaced
  same_count = ap (λ (x : Table). x.count) is

  same-assured : assured (own_tasks (table_of sheet)) ≡ assured (tasks_of t t.interval choice)
  same-assured = ap (λ (x : Table). assured (own_tasks x)) is ∙ replaced-assured t few choice

  same-time : (place : ℕ) → place < t.count → assured_time (own_tasks (table_of sheet)) place ≡ assured_time (tasks_of t t.interval choice) place
  same-time place below = ap (λ (x : Table). assured_time (own_tasks x) place) is ∙ replaced-time t few choice place below

  module _ (holds : assured (tasks_of t t.interval choice) ≡ true) where
    value : (j : ℕ) → j < (table_of sheet).count → (assured_equation (own_tasks (table_of sheet)) j (assured_time (own_tasks (table_of sheet)) j) ≤ assured_time (own_tasks (table_of sheet)) j) × (assured_time (own_tasks (table_of sheet)) j ≤ (record_at (table_of sheet).records j).deadline)
    value j below = assured-value (own_tasks (table_of sheet)) j (assured-exactly (own_tasks (table_of sheet)) (same-assured ∙ holds) j below)

    -- "no job misses in any log that replay accepts, of any length"
    pub assured-none-missed : (replay_answer sheet log).counts.missed ≡ 0
    assured-none-missed = equation-none-missed sheet log accepted (λ j below. (assured_time (own_tasks (table_of sheet)) j, (value j below).0, (value j below).1))

    -- the same of each task and each tick
    pub assured-misses-none : (j : ℕ) → j < (table_of sheet).count → (time : ℕ) → time < ticks_of log → misses_at (machine_of (table_of sheet)) log (place_of (table_of sheet) j) time ≡ false
    assured-misses-none j below = equation-misses-none sheet log accepted j below (assured_time (own_tasks (table_of sheet)) j) (value j below).0 (value j below).1

    -- "and each finished job is done within its task's assured time", the release tick being the first
    pub assured-finished-within : (j : ℕ) → j < t.count → (time : ℕ) → time < ticks_of log → finishes_at (machine_of (table_of sheet)) log (place_of (table_of sheet) j) time ≡ true
        → (release : ℕ) × ReleasedAt log (place_of (table_of sheet) j) time release × (time < release + assured_time (tasks_of t t.interval choice) j)
    assured-finished-within j low-j time within done =
        let below : j < (table_of sheet).count = omega (arith, same_count) in
        subst (λ (L : ℕ). (release : ℕ) × ReleasedAt log (place_of (table_of sheet) j) time release × (time < release + L)) (same-time j low-j)
        (equation-finished-within sheet log accepted j below (assured_time (own_tasks (table_of sheet)) j) (value j below).0 (value j below).1 time within done)

-- A good table for the whole processor, and a choice that it has
module _ (t : Table) (fine : assured_refusal t ≡ 0) (choice : List ℕ) (allowed : Allowed t choice) where
  abbrev tasks : Tasks
  tasks = tasks_of t t.interval choice

  good-t : table_refusal t ≡ 0
  good-t = rule-good Assured t (sym (refusal-assured t) ∙ fine)

  apart : (i : ℕ) → i < t.count → (k : ℕ) → k < t.count → (record_at t.records k).priority ≡ (record_at t.records i).priority → k ≡ i
  apart i below k h same = (ranked t.count (record_at t.records) (good-table t good-t).records).apart k i h below (ap (λ (p : ℕ). t.count - p) same)

  often : 1 ≤ t.interval
  often = let some = (good-table t good-t).interval in omega arith

  module _ (i : ℕ) (below : i < t.count) where
    -- "tasks with q = p have the same time as by request 3"
    pub raised-time : get_or choice i 0 ≡ (record_at t.records i).priority → assured_time tasks i ≡ response_time tasks i
    unfolding assured_time response_time
    raised-time raised = assured-response tasks i below often raised (λ k h. (allowed.each k h).1) (apart i below) 65535

    -- "a task whose N of request 3 is at most B plus the costs of the tasks between q and p is safe by request 3's equation too": where it is on time by it, it has an assured time, no later than its response
    pub request-safe : backup_from_fault tasks i ≤ (record_at t.records i).backup + costs_between tasks i → late tasks i ≡ false → (unassured tasks i ≡ false) × (assured_time tasks i ≤ response_time tasks i)
    request-safe small on-time =
        let known = on-time-within (record_at t.records i).deadline (response_time tasks i) on-time in
        let sooner = assured-no-later tasks i below often (allowed.each i below).1 (apart i below) small known.0 in
        (within-on-time (record_at t.records i).deadline (assured_time tasks i) sooner.0 (omega arith), sooner.1)

  -- "the choice of all q = p is assured exactly if it passes"
  pub raised-exactly : ((k : ℕ) → k < t.count → get_or choice k 0 ≡ (record_at t.records k).priority) → assured tasks ≡ passes tasks
  unfolding assured passes
  raised-exactly raised = ap not (some-agree t.count (λ i below. raised-unassured t good-t choice allowed.each i below (raised i below)))

-- "every assured choice, ascending, once, as a walk and as a list, from any allowed choice on", of a good table
module _ (t : Table) (fine : assured_refusal t ≡ 0) where
  good-assured-table : table_refusal t ≡ 0
  good-assured-table = rule-good Assured t (sym (refusal-assured t) ∙ fine)

  -- "every assured choice", and nothing else
  pub assured-listed : (c : List ℕ) → In c (assured_of t) ↔ ((length c ≡ 8) × Allowed t c × (assured (tasks_of t t.interval c) ≡ true))
  unfolding assured_of
  assured-listed = listed-exactly assured t good-assured-table

  -- "ascending", so "once"
  pub assured-ascending : (j k : ℕ) → j < k → k < length (assured_of t) → before (get_or (assured_of t) j []) (get_or (assured_of t) k []) ≡ true
  unfolding assured_of
  assured-ascending = listed-ascending assured t

  pub assured-once : (j k : ℕ) → j < k → k < length (assured_of t) → get_or (assured_of t) j [] ≡ get_or (assured_of t) k [] → ⊥
  unfolding assured_of
  assured-once = listed-once assured t

  -- a step is not refused from the start or from any allowed choice
  may-step : (start : List ℕ) → starts t start ≡ true → step_refusal t start ≡ 0
  unfolding step_refusal
  may-step start so = next-of {a = assured_refusal t} _ fine ∙ simp so

  module _ (w : Walk) (eight : length w.entries ≡ 8) (may : MayStart t w.entries) where
    -- it gives the first assured choice after it, and says end exactly if none is left
    pub assured-step-first : (c : List ℕ) → step_answer t w ≡ record { walk = record { entries = c }; arrival = Found } → FirstAfter assured t w.entries c
    unfolding step_answer assured_of
    assured-step-first = first-given assured t good-assured-table (step_refusal t) may-step w eight may

    pub assured-step-gives : (c : List ℕ) → FirstAfter assured t w.entries c → step_answer t w ≡ record { walk = record { entries = c }; arrival = Found }
    unfolding step_answer assured_of
    assured-step-gives = gives-first assured t good-assured-table (step_refusal t) may-step w eight may

    pub assured-step-end : (step_answer t w ≡ record { walk = w; arrival = End }) ↔ ((c : List ℕ) → In c (assured_of t) → before w.entries c ≡ false)
    unfolding step_answer assured_of
    assured-step-end = end-exactly assured t good-assured-table (step_refusal t) may-step w eight may

  -- walking from the start until the end visits exactly the list
  pub assured-visits : (k : ℕ) → k < length (assured_of t) → step_answer t (walk_after (step_answer t) k) ≡ record { walk = record { entries = get_or (assured_of t) k [] }; arrival = Found }
  unfolding step_answer assured_of
  assured-visits = visits-each assured t good-assured-table (step_refusal t) may-step

  pub assured-ends : step_answer t (walk_after (step_answer t) (length (assured_of t))) ≡ record { walk = walk_after (step_answer t) (length (assured_of t)); arrival = End }
  unfolding step_answer assured_of
  assured-ends = ends_last assured t good-assured-table (step_refusal t) may-step

  -- and the list's bytes are those entries in that order
  pub assured-bytes : (out : List ℕ) → list_refusal t out ≡ 0 → (k : ℕ) → k < length (assured_of t) → take 4 (drop (4 * k) (list_leaves t out)) ≡ entry_bytes (get_or (assured_of t) k [])
  unfolding list_leaves
  assured-bytes out = list_put (list_refusal t out) (assured_of t) out
