-- What each public call answers, refusals included: "a table's or sheet's, 19, then as in the walk and the list".
use Rattle.std.specs.Prelude.{ℕ, false, cond, ◌||◌, List, eqb, ltb, replicate}
use Rattle.places.specs.Places.{filled_below}
use Rattle.places.specs.Refusals.{or_else}
use Rattle.sheet.specs.declared.Table.{Table}
use Rattle.sheet.specs.Rules.{whole_refusal}
use Rattle.analysis.specs.declared.Outcome.TheVariants.{OnTime}
use Rattle.analysis.specs.declared.Entry.{Entry as Whole}
use Rattle.analysis.specs.Common.Tasks.{Tasks}
use Rattle.analysis.specs.Assured.Time.{assured_time, assured}
use Rattle.analysis.specs.Common.Columns.{priorities_of}
use Rattle.analysis.specs.Common.Allowed.{all_allowed}
use Rattle.analysis.specs.Common.Entries.{outcome_of, own_tasks}
use Rattle.choices.specs.declared.Walk.{Walk}
use Rattle.choices.specs.Told.{Stepped, Listing}
use Rattle.choices.specs.Choices.{chosen}
use Rattle.choices.specs.Order.{all_zero}
use Rattle.choices.specs.Answers.{step_from, room_refusal, list_from, leaves_from}
use Rattle.assured.specs.declared.Entry.{Entry}
use Rattle.assured.specs.Told.{Timed, Times}

-- "a choice is assured if every task has one", an assured time: these choices, in their order
unfoldable pub assured_of : Table → List (List ℕ)
assured_of t = chosen assured t

-- what a table is refused for: its own rules, then 19 "for a shared processor"
unfoldable pub assured_refusal : Table → ℕ
assured_refusal t = whole_refusal t

-- "the assured time of a task under a choice, within its deadline", beside the deadline; late where there is none
unfoldable pub entry_of : Tasks → ℕ → Entry
entry_of s i = record { deadline = (s.at i).deadline; outcome = outcome_of (s.at i).deadline (assured_time s i) }

-- the entry of a refused call and of a place past the count
abbrev pub no_entry : Entry
no_entry = record { deadline = 0; outcome = OnTime 0 }

-- an entry by the assured rule, of which no slack is told
abbrev pub without_slack : Whole → Entry
without_slack given = record { deadline = given.deadline; outcome = given.outcome }

-- the refusal of `assured_time`: 12, "the record place asked for is not below the count", last
unfoldable pub place_refusal : Table → ℕ → ℕ
place_refusal t place = or_else (assured_refusal t) (cond (ltb place t.count) 0 12)

-- `assured_time`: the refusal beside the record's entry
unfoldable pub time_answer : Table → ℕ → Timed
time_answer t place = record { refusal = place_refusal t place; entry = cond (eqb (place_refusal t place) 0) (entry_of (own_tasks t) place) no_entry }

-- `assured_times`: the refusal, "the assured times of a table", and whether its own fault priorities are an assured choice; no where it is refused
unfoldable pub times_answer : Table → Times
times_answer t =
    record {
      refusal = assured_refusal t;
      entries = cond (eqb (assured_refusal t) 0) (filled_below (entry_of (own_tasks t)) t.count (replicate 8 no_entry)) (replicate 8 no_entry);
      assured = cond (eqb (assured_refusal t) 0) (assured (own_tasks t)) false;
    }

-- the refusal of a step: 13, "the choice to go on after is not all zero, and has an entry outside 1 to that record's p or a nonzero entry past the count", last
unfoldable pub step_refusal : Table → List ℕ → ℕ
step_refusal t start = or_else (assured_refusal t) (cond (all_zero start || all_allowed (priorities_of t) start) 0 13)

-- `step`: "every assured choice, ascending, once, as a walk"
unfoldable pub step_answer : Table → Walk → Stepped
step_answer t w = step_from (step_refusal t w.entries) (assured_of t) w

-- the refusal of `list`: 11, "the lent output is shorter than what is to be written", last
unfoldable pub list_refusal : Table → List ℕ → ℕ
list_refusal t out = room_refusal (assured_refusal t) (assured_of t) out

-- `list`: "and as a list": the refusal beside the number of entries
unfoldable pub list_answer : Table → List ℕ → Listing
list_answer t out = list_from (list_refusal t out) (assured_of t)

-- the output after it
unfoldable pub list_leaves : Table → List ℕ → List ℕ
list_leaves t out = leaves_from (list_refusal t out) (assured_of t) out
