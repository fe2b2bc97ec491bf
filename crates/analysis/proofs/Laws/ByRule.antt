-- What is known of a table that is not refused under a rule, and what is answered by one. Assumes nothing.
use Prim.Native.Nat.{ℕ, ◌<◌}
use mathlib.Core.Path.{◌≡◌, refl, sym, ap, ap₂, ◌∙◌}
use mathlib.Core.Bool.{Bool, true, false, cond, not}
use mathlib.Core.List.{List}
use borrow.Author.Tests.{eq-eqb}
use lib.Dec.{eqb}
use lib.ListN.{length, get_or, replicate}
use Rattle.std.specs.Prelude.{Some, None, Result, Ok, Err}
use Rattle.std.specs.Result.{result_unwrap_or}
use Rattle.places.specs.declared.refusal.Refusal.{Refusal}
use Rattle.places.specs.Answered.{numbered, answered}
use Rattle.places.specs.Places.{some_below, filled_below}
use Rattle.places.proofs.Agree.{some-agree, filled-agree}
use Rattle.places.proofs.Gathered.{some-reordered}
use Rattle.places.proofs.Refusals.{none_of}
use Rattle.sheet.specs.declared.Table.{Table}
use Rattle.sheet.specs.Rules.{table_refusal, shared_refusal}
use Rattle.analysis.specs.declared.common.by_rank.Frame.{Frame}
use Rattle.analysis.specs.declared.Rule.{Rule}
use Rattle.analysis.specs.declared.Rule.TheVariants.{Published, Assured}
use Rattle.analysis.specs.Told.{some_of, least_told}
use Rattle.analysis.specs.Told.Interval.{Refused, Least, Nothing}
use Rattle.analysis.specs.Common.Columns.{priorities_of}
use Rattle.analysis.specs.Common.Allowed.{all_allowed, Within}
use Rattle.analysis.specs.Common.Tasks.{Tasks, tasks_of, own_choice}
use Rattle.analysis.specs.Common.Entries.{is_late, entry_from, no_entry, assessed, verdict_of}
use Rattle.analysis.specs.Common.ByRank.{rank_of, ranked, frame_of, ColumnsOf, FaultsOf, RanksOf}
use Rattle.analysis.specs.Published.Response.{response_within, response_time, passes}
use Rattle.analysis.specs.Assured.Time.{assured_time, assured}
use Rattle.analysis.specs.Published.Answers.{entry_of, timed_refusal, timed_answer, choice_refusal, choice_assessment, least_interval, least_of, interval_answer}
use Rattle.analysis.specs.ByRule.{rule_refusal, meets, judged_refusal, time_by, entry_by, choice_assessment_by, ranked_assessment, meets_answer, place_refusal, timed_by, least_interval_by, interval_answer_by}
use Rattle.analysis.proofs.Laws.Common.Choice.{allowed-kept, own-last}
use Rattle.analysis.proofs.Laws.Common.Placing.{ranks}
use Rattle.analysis.proofs.Laws.Published.Columned.{response-ranked}
use Rattle.analysis.proofs.Laws.Assured.ByRank.{assured-ranked, assured-ranked-at}

-- a table that is not refused under a rule is good
pub rule-good : (rule : Rule) (t : Table) → rule_refusal rule t ≡ 0 → table_refusal t ≡ 0
unfolding rule_refusal
rule-good Published t e = e
rule-good Assured t e = (none_of (table_refusal t) (shared_refusal t) e).0

-- a choice that is not refused is one of such a table
pub judged-good : (rule : Rule) (t : Table) (choice : List ℕ) → length choice ≡ 8 → judged_refusal rule t choice ≡ 0 → (rule_refusal rule t ≡ 0) × Within t choice
unfolding judged_refusal
judged-good rule t choice eight e =
    let both = none_of (rule_refusal rule t) (cond (all_allowed (priorities_of t) choice) 0 13) e in
    (both.0, allowed-kept t (rule-good rule t both.0) choice eight both.1)

pub judged-fine : (rule : Rule) (t : Table) (choice : List ℕ) → length choice ≡ 8 → judged_refusal rule t choice ≡ 0 → (table_refusal t ≡ 0) × Within t choice
judged-fine rule t choice eight e =
    let both = judged-good rule t choice eight e in
    (rule-good rule t both.0, both.1)

-- the table's own fault priorities are refused exactly as the table is
pub own-judged : (rule : Rule) (t : Table) → judged_refusal rule t (own_choice t) ≡ rule_refusal rule t
unfolding judged_refusal
own-judged rule t = own-last t (rule_refusal rule t) (rule-good rule t)

-- a choice meets by a rule exactly if no record is late by its time
pub meets-each : (rule : Rule) (s : Tasks) → meets rule s ≡ not (some_below (λ i. is_late (s.at i).deadline (time_by rule s i)) s.count)
unfolding meets time_by passes assured
meets-each Published s = refl
meets-each Assured s = refl

-- the columns of a good table have its entries, each at its record's rank
module _ (t : Table) (good : table_refusal t ≡ 0) (columns : List ℕ) (filled : ColumnsOf t columns) (choice faults : List ℕ) (beside : FaultsOf t choice faults) {frame : Frame} (framed : frame ≡ frame_of t t.interval) where
  abbrev tasks : Tasks
  tasks = tasks_of t t.interval choice

  abbrev held : Tasks
  held = ranked columns frame faults

  time-there : (rule : Rule) (place : ℕ) → place < t.count → time_by rule held (rank_of t place) ≡ time_by rule tasks place
  unfolding time_by response_time
  time-there Published place below =
      ap (λ (f : Frame). response_within 65535 (ranked columns f faults) (rank_of t place)) framed ∙ response-ranked t good columns filled t.interval choice faults beside 65535 place below
  time-there Assured place below = ap (λ (f : Frame). assured_time (ranked columns f faults) (rank_of t place)) framed ∙ assured-ranked t good columns filled choice faults beside place below

  pub entry-there : (rule : Rule) (place : ℕ) → place < t.count → {rank : ℕ} → rank ≡ rank_of t place → entry_by rule held rank ≡ entry_by rule tasks place
  unfolding entry_by
  entry-there rule place below here = ap (entry_by rule held) here ∙ ap₂ entry_from (filled place below).deadline (time-there rule place below)

  -- they meet a rule exactly if the table's tasks do
  pub meets-there : (rule : Rule) → meets rule held ≡ meets rule tasks
  meets-there rule =
      meets-each rule held
      ∙ ap (λ (n : ℕ). not (some_below (λ rank. is_late (held.at rank).deadline (time_by rule held rank)) n)) (ap (λ (f : Frame). f.count) framed)
      ∙ ap not
      (sym (some-reordered t.count (rank_of t) (ranks t good) (λ rank. is_late (held.at rank).deadline (time_by rule held rank)))
      ∙ some-agree t.count (λ place below. ap₂ is_late (filled place below).deadline (time-there rule place below)))
      ∙ sym (meets-each rule tasks)

  -- and its verdict: all entries, each at its record's place, and whether one is late
  pub assessed-there : (rule : Rule) → judged_refusal rule t choice ≡ 0 → (ranks : List ℕ) → RanksOf t ranks → ranked_assessment rule held ranks ≡ choice_assessment_by rule t choice
  unfolding choice_assessment_by ranked_assessment assessed
  assessed-there rule allowed ranks each =
      let count = ap (λ (f : Frame). f.count) framed in
      let entries = ap (λ (n : ℕ). filled_below (λ place. entry_by rule held (get_or ranks place 0)) n (replicate 8 no_entry)) count
      ∙ filled-agree t.count (replicate 8 no_entry) (λ place below. entry-there rule place below (each place below)) in
      let late = ap (λ (n : ℕ). some_below (λ place. is_late (held.at (get_or ranks place 0)).deadline (time_by rule held (get_or ranks place 0))) n) count
      ∙ some-agree t.count (λ place below. ap (λ (rank : ℕ). is_late (held.at rank).deadline (time_by rule held rank)) (each place below) ∙ ap₂ is_late (filled place below).deadline (time-there rule place below)) in
      let verdict = ap not late ∙ sym (meets-each rule tasks) in
      simp allowed (λ j. record { refusal = 0; entries = entries j; passes = verdict j })

-- and at every interval they meet a rule exactly if the table's tasks do at it
module _ (t : Table) (good : table_refusal t ≡ 0) (columns : List ℕ) (filled : ColumnsOf t columns) (choice faults : List ℕ) (beside : FaultsOf t choice faults) {interval : ℕ} {frame : Frame} (framed : frame ≡ frame_of t interval) where
  abbrev tasks-at : Tasks
  tasks-at = tasks_of t interval choice

  abbrev held-at : Tasks
  held-at = ranked columns frame faults

  time-there-at : (rule : Rule) (place : ℕ) → place < t.count → time_by rule held-at (rank_of t place) ≡ time_by rule tasks-at place
  unfolding time_by response_time
  time-there-at Published place below =
      ap (λ (f : Frame). response_within 65535 (ranked columns f faults) (rank_of t place)) framed ∙ response-ranked t good columns filled interval choice faults beside 65535 place below
  time-there-at Assured place below =
      ap (λ (f : Frame). assured_time (ranked columns f faults) (rank_of t place)) framed ∙ assured-ranked-at t good columns filled interval choice faults beside place below

  pub meets-there-at : (rule : Rule) → meets rule held-at ≡ meets rule tasks-at
  meets-there-at rule =
      meets-each rule held-at
      ∙ ap (λ (n : ℕ). not (some_below (λ rank. is_late (held-at.at rank).deadline (time_by rule held-at rank)) n)) (ap (λ (f : Frame). f.count) framed)
      ∙ ap not
      (sym (some-reordered t.count (rank_of t) (ranks t good) (λ rank. is_late (held-at.at rank).deadline (time_by rule held-at rank)))
      ∙ some-agree t.count (λ place below. ap₂ is_late (filled place below).deadline (time-there-at rule place below)))
      ∙ sym (meets-each rule tasks-at)

-- an assessment is refused as its choice is
pub assessment-refusal : (rule : Rule) (t : Table) (choice : List ℕ) → (choice_assessment_by rule t choice).refusal ≡ judged_refusal rule t choice
unfolding choice_assessment_by assessed
assessment-refusal rule t choice = refl

-- where a choice is not refused, the verdict is whether it meets
pub assessed-meets : (rule : Rule) (t : Table) (choice : List ℕ) → judged_refusal rule t choice ≡ 0 → (choice_assessment_by rule t choice).passes ≡ meets rule (tasks_of t t.interval choice)
unfolding choice_assessment_by assessed
assessed-meets rule t choice allowed = simp (eq-eqb (judged_refusal rule t choice) 0 allowed)

-- and so `meets_choice` says what the one call for times and verdict says
pub met-as-assessed : (rule : Rule) (t : Table) (choice : List ℕ) → ((meets_answer rule t choice).refusal ≡ (choice_assessment_by rule t choice).refusal) × ((meets_answer rule t choice).yes ≡ (choice_assessment_by rule t choice).passes)
unfolding meets_answer verdict_of choice_assessment_by assessed
met-as-assessed rule t choice = (refl, refl)

-- the published equations are one rule
pub assessed-published : (t : Table) (choice : List ℕ) → choice_assessment_by Published t choice ≡ choice_assessment t choice
unfolding choice_assessment_by choice_assessment choice_refusal judged_refusal rule_refusal meets entry_by time_by entry_of
assessed-published t choice = refl

pub timed-published : (t : Table) (place : ℕ) → timed_by Published t place ≡ timed_answer t place
unfolding timed_by timed_answer place_refusal timed_refusal rule_refusal entry_by time_by entry_of
timed-published t place = refl

pub interval-published : (t : Table) → interval_answer_by Published t ≡ interval_answer t
unfolding interval_answer_by least_interval_by interval_answer least_interval rule_refusal meets
interval-published t = refl

-- what is answered for the least interval: it, or that there is none
pub least-answered : (refusal least : ℕ) → least_told (least_of refusal least) ≡ answered refusal (some_of least)
unfolding least_of answered some_of least_told
least-answered refusal least = go (eqb refusal 0) (eqb least 0)
  where
    go : (fine none : Bool) → least_told (cond fine (cond none Nothing (Least least)) (Refused refusal)) ≡ cond fine (Ok (cond none None (Some least))) (Err (numbered refusal))
    go true true = refl
    go true false = refl
    go false none = refl

-- the verdict that is told, and no where the call is refused
pub verdict-told : (refusal : ℕ) (said : Bool) {told : Result Bool Refusal} → told ≡ answered (verdict_of refusal said).refusal (verdict_of refusal said).yes
    → result_unwrap_or told false ≡ (verdict_of refusal said).yes
unfolding verdict_of answered
verdict-told refusal said e = ap (λ (x : Result Bool Refusal). result_unwrap_or x false) e ∙ go (eqb refusal 0)
  where
    go : (fine : Bool) → result_unwrap_or (cond fine (Ok (cond fine said false)) (Err (numbered refusal))) false ≡ cond fine said false
    go true = refl
    go false = refl
