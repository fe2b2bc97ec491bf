-- The two rules that a choice of fault priorities can be judged by, and what is refused before: a choice passes by the published equations, and is assured by the assured equation: it meets the one rule or the other. Beside them, what the calls that are given a rule answer.
use Rattle.std.specs.Prelude.{ℕ, Bool, cond, not, List, eqb, ltb, get_or, replicate}
use Rattle.places.specs.Places.{some_below, filled_below}
use Rattle.places.specs.Search.{first_from}
use Rattle.places.specs.Refusals.{or_else}
use Rattle.sheet.specs.declared.Table.{Table}
use Rattle.sheet.specs.Rules.{table_refusal, whole_refusal}
use Rattle.analysis.specs.declared.Entry.{Entry}
use Rattle.analysis.specs.Told.{Timed, Assessment, Verdict, Interval}
use Rattle.analysis.specs.declared.Rule.{Rule}
use Rattle.analysis.specs.declared.Rule.TheVariants.{Published, Assured}
use Rattle.analysis.specs.Common.Tasks.{Tasks, tasks_of, own_choice}
use Rattle.analysis.specs.Published.Response.{response_time, passes}
use Rattle.analysis.specs.Published.Answers.{least_of}
use Rattle.analysis.specs.Assured.Time.{assured_time, assured}
use Rattle.analysis.specs.Common.Columns.{priorities_of}
use Rattle.analysis.specs.Common.Allowed.{all_allowed}
use Rattle.analysis.specs.Common.Entries.{is_late, entry_from, no_entry, own_tasks, assessed, verdict_of}

-- what the rule asks of the tasks under a choice
unfoldable pub meets : Rule → Tasks → Bool
meets Published = passes
meets Assured = assured

-- what a table is refused for under a rule: its own rules, and by the assured rule, which speaks of the whole processor, then 19 "for a shared processor"
unfoldable pub rule_refusal : Rule → Table → ℕ
rule_refusal Published t = table_refusal t
rule_refusal Assured t = whole_refusal t

-- and then for 13, "an entry outside 1 to that record's p or a nonzero entry past the count"
unfoldable pub judged_refusal : Rule → Table → List ℕ → ℕ
judged_refusal rule t choice = or_else (rule_refusal rule t) (cond (all_allowed (priorities_of t) choice) 0 13)

-- the time of record i by a rule: the response time, or that by the assured equation
unfoldable pub time_by : Rule → Tasks → ℕ → ℕ
time_by Published = response_time
time_by Assured = assured_time

-- its entry: the deadline beside that time or late, and the slack
unfoldable pub entry_by : Rule → Tasks → ℕ → Entry
entry_by rule s i = entry_from (s.at i).deadline (time_by rule s i)

-- `assess_choice_by`: every record's entry by a rule under a choice, and whether it meets the rule
unfoldable pub choice_assessment_by : Rule → Table → List ℕ → Assessment
choice_assessment_by rule t choice = let s = tasks_of t t.interval choice in assessed (judged_refusal rule t choice) (entry_by rule s) t.count (meets rule s)

-- `assess_by`: under the table's own fault priorities
unfoldable pub own_assessment_by : Rule → Table → Assessment
own_assessment_by rule t = choice_assessment_by rule t (own_choice t)

-- the same out of tasks by rank, the rank of each place given beside them
unfoldable pub ranked_assessment : Rule → Tasks → List ℕ → Assessment
ranked_assessment rule s ranks =
    record {
      refusal = 0;
      entries = filled_below (λ place. entry_by rule s (get_or ranks place 0)) s.count (replicate 8 no_entry);
      passes = not (some_below (λ place. is_late (s.at (get_or ranks place 0)).deadline (time_by rule s (get_or ranks place 0))) s.count);
    }

-- `meets_choice`: whether a choice that is not refused meets the rule
unfoldable pub meets_answer : Rule → Table → List ℕ → Verdict
meets_answer rule t choice = verdict_of (judged_refusal rule t choice) (meets rule (tasks_of t t.interval choice))

-- `meets_by`: whether the table's own fault priorities do
unfoldable pub own_meets : Rule → Table → Verdict
own_meets rule t = meets_answer rule t (own_choice t)

-- the refusal of `time_by`: the rule's, then 12, "the record place asked for is not below the count"
unfoldable pub place_refusal : Rule → Table → ℕ → ℕ
place_refusal rule t place = or_else (rule_refusal rule t) (cond (ltb place t.count) 0 12)

-- `time_by`: the refusal beside the record's entry by a rule
unfoldable pub timed_by : Rule → Table → ℕ → Timed
timed_by rule t place = record { refusal = place_refusal rule t place; entry = cond (eqb (place_refusal rule t place) 0) (entry_by rule (own_tasks t) place) no_entry }

-- the smallest E from 1 to 65,535 at which the table's own fault priorities meet the rule; 0 if there is none
unfoldable pub least_interval_by : Rule → Table → ℕ
least_interval_by rule t = first_from (λ interval. meets rule (tasks_of t interval (own_choice t))) 1 65535

-- `least_interval_by`: the least interval of a table that is not refused under the rule
unfoldable pub interval_answer_by : Rule → Table → Interval
interval_answer_by rule t = least_of (rule_refusal rule t) (least_interval_by rule t)
