-- What the calls that judge by the published equations answer, refusals included.
use Rattle.std.specs.Prelude.{ℕ, cond, List, eqb, ltb}
use Rattle.places.specs.Search.{first_from}
use Rattle.places.specs.Refusals.{or_else}
use Rattle.sheet.specs.declared.Table.{Table}
use Rattle.sheet.specs.Rules.{table_refusal}
use Rattle.analysis.specs.declared.Entry.{Entry}
use Rattle.analysis.specs.Told.{Timed, Assessment, Interval}
use Rattle.analysis.specs.Told.Interval.{Refused, Least, Nothing}
use Rattle.analysis.specs.Common.Tasks.{Tasks, tasks_of, own_choice}
use Rattle.analysis.specs.Published.Response.{response_time, passes}
use Rattle.analysis.specs.Common.Entries.{assessed, entry_from, no_entry, own_tasks}
use Rattle.analysis.specs.Common.Columns.{priorities_of}
use Rattle.analysis.specs.Common.Allowed.{all_allowed}

-- the entry of record i
unfoldable pub entry_of : Tasks → ℕ → Entry
entry_of s i = entry_from (s.at i).deadline (response_time s i)

-- the refusal of `response_time`: the table's, then 12, "the record place asked for is not below the count"
unfoldable pub timed_refusal : Table → ℕ → ℕ
timed_refusal t place = or_else (table_refusal t) (cond (ltb place t.count) 0 12)

-- `response_time`: the refusal beside the record's entry
unfoldable pub timed_answer : Table → ℕ → Timed
timed_answer t place = record { refusal = timed_refusal t place; entry = cond (eqb (timed_refusal t place) 0) (entry_of (own_tasks t) place) no_entry }

-- `judge_choice`: the table's refusal, then 13, "an entry outside 1 to that record's p or a nonzero entry past the count"; all zero is no choice, and refused like any other
unfoldable pub choice_refusal : Table → List ℕ → ℕ
choice_refusal t choice = or_else (table_refusal t) (cond (all_allowed (priorities_of t) choice) 0 13)

-- `assess_choice`: under a choice, which takes the place of the table's own fault priorities
unfoldable pub choice_assessment : Table → List ℕ → Assessment
choice_assessment t choice = let s = tasks_of t t.interval choice in assessed (choice_refusal t choice) (entry_of s) t.count (passes s)

-- `assess`: under the table's own fault priorities
unfoldable pub own_assessment : Table → Assessment
own_assessment t = choice_assessment t (own_choice t)

-- "the smallest E from 1 to 65,535 at which the sheet passes with its own fault priorities"; 0 if there is none
unfoldable pub least_interval : Table → ℕ
least_interval t = first_from (λ interval. passes (tasks_of t interval (own_choice t))) 1 65535

-- a refusal's number, the interval, or "none"
unfoldable pub least_of : ℕ → ℕ → Interval
least_of refusal least = cond (eqb refusal 0) (cond (eqb least 0) Nothing (Least least)) (Refused refusal)

-- `least_interval`: the least interval of a table that is not refused
unfoldable pub interval_answer : Table → Interval
interval_answer t = least_of (table_refusal t) (least_interval t)
