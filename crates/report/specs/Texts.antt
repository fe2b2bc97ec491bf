-- The text of each kind of line that the program prints, and the line that holds a text.
use Rattle.std.specs.Prelude.{ℕ, ◌+◌, min, List, ◌++◌, length, get_or, replicate}
use Rattle.std.proofs.lemmas.List.Edits.{sets}
use Rattle.places.specs.Places.{joined_below}
use Rattle.analysis.specs.declared.Outcome.{Outcome}
use Rattle.analysis.specs.declared.Outcome.TheVariants.{OnTime, Late}
use Rattle.analysis.specs.declared.Slack.{Slack}
use Rattle.analysis.specs.declared.Slack.TheVariants.{Figure, NoFigure}
use Rattle.analysis.specs.declared.Entry.{Entry}
use Rattle.mend.specs.declared.Field.{Field}
use Rattle.mend.specs.declared.Field.TheVariants.{Length, Deadline, FaultPriority}
use Rattle.mend.specs.declared.Change.{Change}
use Rattle.report.specs.declared.Line.{Line}
use Rattle.report.specs.declared.Name.{Name}
use Rattle.report.specs.declared.Name.TheVariants.{Interval, Least, End, Refused, Attempts, Backups, Idle, Released, Finished, Missed, Unfinished, Differs, FitsNone}
use Rattle.report.specs.declared.Saying.{Saying}
use Rattle.report.specs.declared.Saying.TheVariants.{NoInterval, Accepted, LoadInUse, LoadCandidate}
use Rattle.report.specs.Words.{
  interval_word,
  least_word,
  end_word,
  refused_word,
  attempts_word,
  backups_word,
  idle_word,
  released_word,
  finished_word,
  missed_word,
  unfinished_word,
  differs_word,
  fits_none_word,
  none_word,
  accepted_word,
  in_use_word,
  candidate_word,
  task_word,
  late_word,
  pass_word,
  record_word,
  core_word,
  length_word,
  deadline_word,
  text_line_word,
  fault_priority_word,
  line_word,
  column_word,
  space,
  newline,
}
use Rattle.report.specs.Decimal.{decimal, signed}

-- the text at the start of eighty-eight zero bytes, beside its length
unfoldable pub line_of : List ℕ → Line
line_of text = record { bytes = sets (replicate 88 0) 0 text; len = length text }

-- the word of each name: "the interval", "`end` and their number", "`refused ` and the number", "least N", "attempts, backups, idle,
-- released, finished, missed, unfinished", "differs TICK", "fits none K"
unfoldable pub word_of : Name → List ℕ
word_of Interval = interval_word
word_of Least = least_word
word_of End = end_word
word_of Refused = refused_word
word_of Attempts = attempts_word
word_of Backups = backups_word
word_of Idle = idle_word
word_of Released = released_word
word_of Finished = finished_word
word_of Missed = missed_word
word_of Unfinished = unfinished_word
word_of Differs = differs_word
word_of FitsNone = fits_none_word

-- a number under its name
unfoldable pub named_text : Name → ℕ → List ℕ
named_text name number = word_of name ++ decimal number ++ newline

-- "none", "accepted", "load in use, or load candidate"
unfoldable pub saying_text : Saying → List ℕ
saying_text NoInterval = none_word ++ newline
saying_text Accepted = accepted_word ++ newline
saying_text LoadInUse = in_use_word ++ newline
saying_text LoadCandidate = candidate_word ++ newline

-- document 02, request 2: "`late` followed by the slack where there is one"
unfoldable pub late_text : Slack → List ℕ
late_text (Figure ticks) = late_word ++ space ++ signed ticks
late_text NoFigure = late_word

-- "its response or the fixed word `late`"
unfoldable pub outcome_text : Outcome → Slack → List ℕ
outcome_text (OnTime time) slack = decimal time
outcome_text Late slack = late_text slack

-- "one line for each record with its place from 1 and its response or the fixed word `late`"
unfoldable pub task_text : ℕ → Entry → List ℕ
task_text place entry = task_word ++ decimal (place + 1) ++ space ++ outcome_text entry.outcome entry.slack ++ newline

-- one entry of a choice, after a space
unfoldable pub entry_text : List ℕ → ℕ → List ℕ
entry_text choice place = space ++ decimal (get_or choice place 0)

-- "one line for each listed choice, entries in record order": the entries below the count, at most eight
unfoldable pub choice_text : ℕ → List ℕ → List ℕ
choice_text count choice = pass_word ++ joined_below (entry_text choice) (min count 8) ++ newline

-- "a line for each record": its place from 1 and its core
unfoldable pub core_text : ℕ → ℕ → List ℕ
core_text place core = record_word ++ decimal (place + 1) ++ core_word ++ decimal core ++ newline

-- what a change is made to: the sheet's length, or a deadline or fault priority of what a word and a number name
unfoldable pub changed_text : List ℕ → ℕ → Field → List ℕ
changed_text word number Length = length_word
changed_text word number Deadline = word ++ decimal number ++ deadline_word
changed_text word number FaultPriority = word ++ decimal number ++ fault_priority_word

-- a line of a change: its old and its new value
unfoldable pub told_text : List ℕ → ℕ → Change → List ℕ
told_text word number change = changed_text word number change.field ++ space ++ decimal change.old ++ space ++ decimal change.new ++ newline

-- "a line for each change": by its record, with the record's place as the change has it
unfoldable pub change_text : Change → List ℕ
change_text change = told_text record_word change.place change

-- of a text "its changes are then told by line"
unfoldable pub line_change_text : ℕ → Change → List ℕ
line_change_text line change = told_text text_line_word line change

-- "the line and column of the first thing that is not understood, with a number of its own"
unfoldable pub refused_at_text : ℕ → ℕ → ℕ → List ℕ
refused_at_text refusal line column = refused_word ++ decimal refusal ++ line_word ++ decimal line ++ column_word ++ decimal column ++ newline
