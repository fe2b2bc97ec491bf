-- What an answer says of a time: late or not, the outcome, the slack, a record's entry, and the entries of a whole table beside the verdict; for an answer that is an enum, this paper's number and values for each case.
use Rattle.std.specs.Prelude.{ℕ, Bool, true, false, cond, ◌||◌, eqb, ltb, pos, ◌-ℤ◌, replicate}
use Rattle.places.specs.Places.{filled_below}
use Rattle.sheet.specs.declared.Table.{Table}
use Rattle.analysis.specs.Told.{Verdict, Assessment}
use Rattle.analysis.specs.declared.Outcome.{Outcome}
use Rattle.analysis.specs.declared.Outcome.TheVariants.{OnTime, Late}
use Rattle.analysis.specs.declared.Slack.{Slack}
use Rattle.analysis.specs.declared.Slack.TheVariants.{Figure, NoFigure}
use Rattle.analysis.specs.declared.Entry.{Entry}
use Rattle.analysis.specs.Common.Tasks.{Tasks, tasks_of, own_choice}

-- late: there is no time within D
unfoldable pub is_late : ℕ → ℕ → Bool
is_late deadline time = eqb time 0 || ltb deadline time

-- "either a time or the word late"
unfoldable pub outcome_of : ℕ → ℕ → Outcome
outcome_of deadline time = cond (is_late deadline time) Late (OnTime time)

-- whether it is the word late
unfoldable pub says_late : Outcome → Bool
says_late (OnTime time) = false
says_late Late = true

-- document 02, request 2: "the slack, deadline minus response, negative when late and zero at an exact fit. Where no value exists within 65,535 there is no figure."
unfoldable pub slack_of : ℕ → ℕ → Slack
slack_of deadline time = cond (eqb time 0) NoFigure (Figure (pos deadline -ℤ pos time))

-- "each record's entry holds its deadline beside either a time or the word late", and "each entry carries the slack"
unfoldable pub entry_from : ℕ → ℕ → Entry
entry_from deadline time = record { deadline = deadline; outcome = outcome_of deadline time; slack = slack_of deadline time }

-- "In a refusal, and in entries past the count, an entry is deadline 0 beside time 0"; its slack is 0
abbrev pub no_entry : Entry
no_entry = record { deadline = 0; outcome = OnTime 0; slack = Figure (pos 0) }

-- a table's tasks under its own interval and its own fault priorities
abbrev pub own_tasks : Table → Tasks
own_tasks t = tasks_of t t.interval (own_choice t)

-- the answer of a refused call: the number beside eight such entries and no
abbrev pub untimed : ℕ → Assessment
untimed refusal = record { refusal = refusal; entries = replicate 8 no_entry; passes = false }

-- document 02, request 5: "one call whose answer holds both": the refusal, an entry for each of n records, and the verdict; "the verdict of a refused call is no"
unfoldable pub assessed : ℕ → (ℕ → Entry) → ℕ → Bool → Assessment
assessed refusal entry n verdict =
    record {
      refusal = refusal;
      entries = cond (eqb refusal 0) (filled_below entry n (replicate 8 no_entry)) (replicate 8 no_entry);
      passes = cond (eqb refusal 0) verdict false;
    }

-- yes or no beside a refusal: "the verdict of a refused call is no"
unfoldable pub verdict_of : ℕ → Bool → Verdict
verdict_of refusal said = record { refusal = refusal; yes = cond (eqb refusal 0) said false }
