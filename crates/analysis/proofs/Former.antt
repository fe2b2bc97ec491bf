-- What requests of document 02 replaced, beside what took its place. The search that ended at the deadline, before request 2: the same tasks are late, with the same
-- figure where they are not, and the same tables pass at every interval and under every choice. The calls for times and for the verdict, before request 5: the one
-- call's answer is the pair that they gave. Assumes nothing.
use Prim.Native.Nat.{ℕ, ◌≤◌, ◌<◌}
use mathlib.Core.Path.{◌≡◌, refl, sym, ap, ap₂, ◌∙◌}
use mathlib.Core.Bool.{Bool, false, cond, not}
use mathlib.Core.List.{List}
use native.Mathlib.Decide.{ℕ_discrete}
use native.Mathlib.Omega.{arith}
use borrow.Author.Tests.{eq-eqb, ne_eqb}
use lib.Dec.{eqb}
use lib.ListN.{get_or, replicate}
use Rattle.places.specs.Places.{some_below, filled_below}
use Rattle.places.proofs.Agree.{some-agree, filled-agree}
use Rattle.places.proofs.Filled.{filled_at}
use Rattle.sheet.specs.declared.Table.{Table}
use Rattle.sheet.specs.Layout.{record_at}
use Rattle.sheet.specs.Rules.{table_refusal}
use Rattle.sheet.proofs.Cases.{good-table}
use Rattle.analysis.specs.Told.{Assessment}
use Rattle.analysis.specs.declared.Entry.{Entry}
use Rattle.analysis.specs.Common.Tasks.{Tasks, tasks_of, own_choice}
use Rattle.analysis.specs.Published.Response.{response_within, response_time, late, passes}
use Rattle.analysis.specs.Published.Answers.{entry_of, choice_refusal, choice_assessment, own_assessment}
use Rattle.analysis.specs.Common.Entries.{no_entry, assessed}
use Rattle.analysis.proofs.Laws.Published.Cut.{response-cut, late-cut}
use Rattle.analysis.proofs.Laws.Common.Cut.{cut-on-time}
use Rattle.analysis.proofs.Laws.Common.Choice.{own_at, own-refusal}
use Rattle.analysis.proofs.Laws.Published.Below.{entry-same, passes_same}

-- document 01: "A task is late if either time [..] has no value within D."
unfoldable pub former_time : Tasks → ℕ → ℕ
former_time s i = response_within (s.at i).deadline s i

-- "A sheet passes if no task is late."
unfoldable pub former_passes : Tasks → Bool
former_passes s = not (some_below (λ i. eqb (former_time s i) 0) s.count)

-- the same tasks are late; a deadline has 16 bits
pub late-as-before : (s : Tasks) (i : ℕ) → (s.at i).deadline ≤ 65535 → late s i ≡ eqb (former_time s i) 0
unfolding former_time response_time
late-as-before s i short = sym (late-cut (s.at i).deadline 65535 short s i)

-- and where a task is not late, its figure is the same
pub time-as-before : (s : Tasks) (i : ℕ) → (s.at i).deadline ≤ 65535 → late s i ≡ false → response_time s i ≡ former_time s i
unfolding former_time response_time
time-as-before s i short is = sym (response-cut (s.at i).deadline 65535 short s i ∙ cut-on-time (s.at i).deadline (response_within 65535 s i) is)

-- the same tables pass, at every interval and under every choice: so the verdict, the least interval, the walk and the list are those of before
pub passes-as-before : (t : Table) (interval : ℕ) (choice : List ℕ) → ((i : ℕ) → i < t.count → (record_at t.records i).deadline ≤ 65535)
    → passes (tasks_of t interval choice) ≡ former_passes (tasks_of t interval choice)
unfolding passes former_passes
passes-as-before t interval choice short = ap not (some-agree t.count (λ i below. late-as-before (tasks_of t interval choice) i (short i below)))

-- what the call for times answered
pub record FormerTimes : Type 0 where
  pub refusal : ℕ
  pub entries : List Entry

-- what the calls for the verdict answered
pub record FormerVerdict : Type 0 where
  pub refusal : ℕ
  pub passes : Bool

-- the own fault priorities were those of all eight records, past the count too
unfoldable pub former_choice : Table → List ℕ
former_choice t = filled_below (λ place. (record_at t.records place).fault_priority) 8 (replicate 8 0)

-- the call for times
unfoldable pub former_times : Table → FormerTimes
former_times t =
    record {
      refusal = table_refusal t;
      entries = cond (eqb (table_refusal t) 0) (filled_below (entry_of (tasks_of t t.interval (former_choice t))) t.count (replicate 8 no_entry)) (replicate 8 no_entry);
    }

-- the call for the verdict
unfoldable pub former_verdict : Table → FormerVerdict
former_verdict t = record { refusal = table_refusal t; passes = cond (eqb (table_refusal t) 0) (passes (tasks_of t t.interval (former_choice t))) false }

-- and the one under a choice
unfoldable pub former_choice_verdict : Table → List ℕ → FormerVerdict
former_choice_verdict t choice = record { refusal = choice_refusal t choice; passes = cond (eqb (choice_refusal t choice) 0) (passes (tasks_of t t.interval choice)) false }

-- the pair of a call for times and one for the verdict
abbrev pub pair_of : FormerTimes → FormerVerdict → Assessment
pair_of times verdict = record { refusal = times.refusal; entries = times.entries; passes = verdict.passes }

module _ (t : Table) where
  -- below the count both choices are the own fault priorities
  own-as-before : t.count ≤ 8 → (k : ℕ) → k < t.count → get_or (own_choice t) k 0 ≡ get_or (former_choice t) k 0
  unfolding former_choice
  own-as-before few k below = own_at t k below few ∙ sym (filled_at (λ place. (record_at t.records place).fault_priority) 8 (replicate 8 0) 0 (omega arith) k (omega arith))

  -- document 02, request 5: "The new answer is proved to be the pair that they gave."
  pub pair-as-before : own_assessment t ≡ pair_of (former_times t) (former_verdict t)
  unfolding own_assessment choice_assessment assessed former_times former_verdict
  pair-as-before = go (ℕ_discrete (table_refusal t) 0)
    where
      together : List Entry → Bool → Assessment
      together l b = record { refusal = table_refusal t; entries = l; passes = b }

      go : Dec (table_refusal t ≡ 0) → own_assessment t ≡ pair_of (former_times t) (former_verdict t)
      go (no broken) = simp (own-refusal t, ne_eqb (table_refusal t) 0 broken)
      go (yes good) =
          let few = (good-table t good).count.1 in
          let each = entry-same t t.interval (own_choice t) (former_choice t) (own-as-before few) in
          simp (own-refusal t, eq-eqb (table_refusal t) 0 good) (ap₂ together (filled-agree t.count (replicate 8 no_entry) each) (passes_same t t.interval (own_choice t) (former_choice t) (own-as-before few)))

  -- both gave the same refusal
  pub refusals-as-before : (former_times t).refusal ≡ (former_verdict t).refusal
  unfolding former_times former_verdict
  refusals-as-before = refl

  -- and under a choice the verdict is the one that was given there
  pub choice-as-before : (choice : List ℕ) → ((choice_assessment t choice).refusal ≡ (former_choice_verdict t choice).refusal) × ((choice_assessment t choice).passes ≡ (former_choice_verdict t choice).passes)
  unfolding choice_assessment assessed former_choice_verdict
  choice-as-before choice = (refl, refl)
