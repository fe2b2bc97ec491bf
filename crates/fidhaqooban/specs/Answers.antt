-- What each function answers, as a number of C, and what it leaves in the lent output.
use Rattle.std.specs.Prelude.{ℕ, ◌+◌, ◌*◌, ◌/◌, ◌%◌, cond, ◌&&◌, ◌||◌, List, [], ◌∷◌, ◌++◌, eqb, ltb, ℤ, length, take, drop}
use Rattle.places.specs.Places.{filled_below}
use Rattle.places.specs.Refusals.{or_else}
use Rattle.sheet.specs.Layout.{count_of, table_size, start_of, table_of}
use Rattle.sheet.specs.Rules.{sheet_refusal}
use Rattle.sheet.specs.Answers.{write_refusal, write_leaves, rewrite_refusal, rewrite_leaves, place_refusal}
use Rattle.analysis.specs.Published.Response.{passes}
use Rattle.analysis.specs.Published.Answers.{entry_of, least_interval}
use Rattle.analysis.specs.Common.Entries.{own_tasks}
use Rattle.analysis.specs.Told.{Interval}
use Rattle.analysis.specs.Told.Interval.{Refused, Least, Nothing}
use Rattle.analysis.specs.declared.Rule.{Rule}
use Rattle.analysis.specs.ByRule.{meets}
use Rattle.choices.specs.Told.{Arrival}
use Rattle.choices.specs.Told.Arrival.{Found, End, Refused as Stopped}
use Rattle.choices.specs.Choices.{chosen, passing_of}
use Rattle.choices.specs.Order.{after_of}
use Rattle.choices.specs.Answers.{walk_refusal, list_refusal, list_leaves, start_refusal, refusal_by, leaves_by}
use Rattle.assured.specs.Answers.{assured_of, step_refusal, place_refusal as asked_refusal, entry_of as assured_entry, list_refusal as assured_room, list_leaves as assured_leaves}
use Rattle.replay.specs.Ticks.Machines.{machine_of}
use Rattle.replay.specs.Logs.Shown.{matching}
use Rattle.replay.specs.Logs.Answers.{replay_refusal, replay_answer, check_refusal}
use Rattle.mend.specs.Mended.{mended}
use Rattle.mend.specs.Changes.{changes_of}
use Rattle.cores.specs.FirstFit.{fits_none}
use Rattle.cores.specs.Answers.{box_refusal, cores_of}
use Rattle.release.specs.Answers.{decision}
use Rattle.fidhaqooban.specs.Numbers.{answer_of, given_table, time_of, figures_of, entry_number, figure_in, entries_of, choice_of, count_numbers, changes_numbers}

-- `fq_write_shared`: "bytes written"
unfoldable pub write_shared_number : ℕ → ℕ → ℕ → ℕ → List ℕ → List ℕ → ℤ
write_shared_number count interval round share numbers out =
    answer_of (write_refusal (given_table count interval round share numbers) out) (table_size (given_table count interval round share numbers))

-- what it leaves in the output: the sheet and then the bytes as they were, or all as it was
unfoldable pub write_shared_left : ℕ → ℕ → ℕ → ℕ → List ℕ → List ℕ → List ℕ
write_shared_left count interval round share numbers out = write_leaves (given_table count interval round share numbers) out

-- `fq_write`: the same for the whole processor
unfoldable pub write_number : ℕ → ℕ → List ℕ → List ℕ → ℤ
write_number count interval = write_shared_number count interval 1 1

unfoldable pub write_left : ℕ → ℕ → List ℕ → List ℕ → List ℕ
write_left count interval = write_shared_left count interval 1 1

-- `fq_rewrite`: "read, then write: bytes written"
unfoldable pub rewrite_number : List ℕ → List ℕ → ℤ
rewrite_number sheet out = answer_of (rewrite_refusal sheet out) (length sheet)

-- what it leaves in the output: the same bytes and then those that were there, or all as it was
unfoldable pub rewrite_left : List ℕ → List ℕ → List ℕ
rewrite_left sheet out = rewrite_leaves sheet out

-- `fq_record`: "where the record's nine bytes start"
unfoldable pub record_number : List ℕ → ℕ → ℤ
record_number sheet place = answer_of (place_refusal sheet place) (start_of sheet + 9 * place)

-- `fq_response`: "the time; 0 late; -12 for the place"
unfoldable pub response_number : List ℕ → ℕ → ℤ
response_number sheet place = answer_of (place_refusal sheet place) (time_of (entry_of (own_tasks (table_of sheet)) place).outcome)

-- the refusal of `fq_slack`: that of asking for the place, then 11, where the output has no room for a figure
unfoldable pub slack_refusal : List ℕ → ℕ → List ℤ → ℕ
slack_refusal sheet place out = or_else (place_refusal sheet place) (cond (eqb (length out) 0) 11 0)

-- `fq_slack`: "1 with the slack in `out[0]`, 0 where there is no figure"
unfoldable pub slack_number : List ℕ → ℕ → List ℤ → ℤ
slack_number sheet place out = answer_of (slack_refusal sheet place out) (figures_of (entry_of (own_tasks (table_of sheet)) place).slack)

-- what it leaves in the output: the figure in its first place, or all as it was
unfoldable pub slack_left : List ℕ → ℕ → List ℤ → List ℤ
slack_left sheet place out = cond (eqb (slack_refusal sheet place out) 0) (figure_in (entry_of (own_tasks (table_of sheet)) place).slack out) out

-- `fq_verdict`: "1 passes, 0 does not"
unfoldable pub verdict_number : List ℕ → ℤ
verdict_number sheet = answer_of (sheet_refusal sheet) (cond (passes (own_tasks (table_of sheet))) 1 0)

-- the refusal of `fq_times`: the sheet's, then 11, where the output has no room for three numbers for each record
unfoldable pub times_refusal : List ℕ → List ℤ → ℕ
times_refusal sheet out = or_else (sheet_refusal sheet) (cond (ltb (length out) (3 * count_of sheet)) 11 0)

-- `fq_times`: "1 where the sheet passes, 0 where not"
unfoldable pub times_number : List ℕ → List ℤ → ℤ
times_number sheet out = answer_of (times_refusal sheet out) (cond (passes (own_tasks (table_of sheet))) 1 0)

-- what it leaves in the output: "three numbers for each record" and then the numbers as they were, or all as it was
unfoldable pub times_left : List ℕ → List ℤ → List ℤ
times_left sheet out = cond (eqb (times_refusal sheet out) 0) (filled_below (λ k. entry_number (entry_of (own_tasks (table_of sheet)) (k / 3)) (k % 3)) (3 * count_of sheet) out) out

-- `fq_least_interval`: "the interval; 0 none"
unfoldable pub interval_number : List ℕ → ℤ
interval_number sheet = answer_of (sheet_refusal sheet) (least_interval (table_of sheet))

-- a least interval as a number, after the refusal of its sheet
unfoldable pub interval_answered : ℕ → Interval → ℤ
interval_answered sheet (Refused refusal) = answer_of (or_else sheet refusal) 0
interval_answered sheet (Least least) = answer_of sheet least
interval_answered sheet Nothing = answer_of sheet 0

-- the first of some choices as a number, 0 where there is none
unfoldable pub first_number : List (List ℕ) → ℕ
first_number [] = 0
first_number (choice ∷ later) = choice_of choice

-- what a step is as a number, after the refusal of its sheet
unfoldable pub arrival_answered : ℕ → Arrival → List ℕ → ℤ
arrival_answered sheet (Stopped refusal) entries = answer_of (or_else sheet refusal) 0
arrival_answered sheet Found entries = answer_of sheet (choice_of entries)
arrival_answered sheet End entries = answer_of sheet 0

-- the next choice of a sheet by a rule: the sheet's refusal, then the step's, or the choice, 0 at the end
unfoldable pub next_by : Rule → List ℕ → ℕ → ℤ
next_by rule sheet after = answer_of (or_else (sheet_refusal sheet) (start_refusal rule (table_of sheet) (entries_of after))) (first_number (after_of (entries_of after) (chosen (meets rule) (table_of sheet))))

-- every choice of a sheet by a rule: the sheet's refusal, then the list's, or the number of entries
unfoldable pub listed_by : Rule → List ℕ → List ℕ → ℤ
listed_by rule sheet out = answer_of (or_else (sheet_refusal sheet) (refusal_by rule (table_of sheet) out)) (length (chosen (meets rule) (table_of sheet)))

-- what that leaves in the output: every choice and then the bytes as they were, or all as it was
unfoldable pub listed_left : Rule → List ℕ → List ℕ → List ℕ
listed_left rule sheet out = cond (eqb (sheet_refusal sheet) 0) (leaves_by rule (table_of sheet) out) out

-- the refusal of `fq_next`: the sheet's, then the walk's
unfoldable pub next_refusal : List ℕ → ℕ → ℕ
next_refusal sheet after = or_else (sheet_refusal sheet) (walk_refusal (table_of sheet) (entries_of after))

-- `fq_next`: "the next passing choice; 0 the end"
unfoldable pub next_number : List ℕ → ℕ → ℤ
next_number sheet after = answer_of (next_refusal sheet after) (first_number (after_of (entries_of after) (passing_of (table_of sheet))))

-- the refusal of a listing: the sheet's, then the list's
unfoldable pub listing_refusal : List ℕ → List ℕ → ℕ
listing_refusal sheet out = or_else (sheet_refusal sheet) (list_refusal (table_of sheet) out)

-- `fq_list`: "the number of entries"
unfoldable pub list_number : List ℕ → List ℕ → ℤ
list_number sheet out = answer_of (listing_refusal sheet out) (length (passing_of (table_of sheet)))

-- what it leaves in the output: every passing choice and then the bytes as they were, or all as it was
unfoldable pub list_left : List ℕ → List ℕ → List ℕ
list_left sheet out = cond (eqb (sheet_refusal sheet) 0) (list_leaves (table_of sheet) out) out

-- `fq_assured_response`: the assured time; 0 late; the sheet's refusal, then 19, then 12 for the place
unfoldable pub assured_number : List ℕ → ℕ → ℤ
assured_number sheet place = answer_of (or_else (sheet_refusal sheet) (asked_refusal (table_of sheet) place)) (time_of (assured_entry (own_tasks (table_of sheet)) place).outcome)

-- the refusal of `fq_assured_next`: the sheet's, then 19 and 13
unfoldable pub assured_next_refusal : List ℕ → ℕ → ℕ
assured_next_refusal sheet after = or_else (sheet_refusal sheet) (step_refusal (table_of sheet) (entries_of after))

-- `fq_assured_next`: the next assured choice; 0 the end
unfoldable pub assured_next_number : List ℕ → ℕ → ℤ
assured_next_number sheet after = answer_of (assured_next_refusal sheet after) (first_number (after_of (entries_of after) (assured_of (table_of sheet))))

-- the refusal of `fq_assured_list`: the sheet's, then 19 and 11
unfoldable pub assured_list_refusal : List ℕ → List ℕ → ℕ
assured_list_refusal sheet out = or_else (sheet_refusal sheet) (assured_room (table_of sheet) out)

-- `fq_assured_list`: the number of entries
unfoldable pub assured_list_number : List ℕ → List ℕ → ℤ
assured_list_number sheet out = answer_of (assured_list_refusal sheet out) (length (assured_of (table_of sheet)))

-- what it leaves in the output: every assured choice and then the bytes as they were, or all as it was
unfoldable pub assured_list_left : List ℕ → List ℕ → List ℕ
assured_list_left sheet out = cond (eqb (sheet_refusal sheet) 0) (assured_leaves (table_of sheet) out) out

-- the refusal of `fq_replay`: the replay's, then 11, where the output has no room for seven numbers
unfoldable pub replayed_refusal : List ℕ → List ℕ → List ℕ → ℕ
replayed_refusal sheet log out = or_else (replay_refusal sheet log) (cond (ltb (length out) 7) 11 0)

-- `fq_replay`: "0 with the counts", or minus the refusal
unfoldable pub replay_number : List ℕ → List ℕ → List ℕ → ℤ
replay_number sheet log out = answer_of (replayed_refusal sheet log out) 0

-- what it leaves in the output: the counts and then the numbers as they were, or all as it was
unfoldable pub replay_left : List ℕ → List ℕ → List ℕ → List ℕ
replay_left sheet log out = cond (eqb (replayed_refusal sheet log out) 0) (count_numbers (replay_answer sheet log).counts ++ drop 7 out) out

-- `fq_check`: "how many ticks from the start show what the rules say", or minus the refusal
unfoldable pub check_number : List ℕ → List ℕ → ℤ
check_number sheet supplied = answer_of (check_refusal sheet supplied) (matching (machine_of (table_of sheet)) supplied)

-- how many numbers the list of a sheet's changes takes
abbrev pub list_size : List ℕ → ℕ
list_size sheet = 1 + 4 * length (changes_of sheet)

-- the refusal of `fq_mend`: that of the mended sheet, then 11, "for either output that is shorter than what is to be written"
unfoldable pub mending_refusal : List ℕ → List ℕ → List ℕ → ℕ
mending_refusal sheet out changes = or_else (sheet_refusal (mended sheet)) (cond (ltb (length out) (length (mended sheet)) || ltb (length changes) (list_size sheet)) 11 0)

-- `fq_mend`: "how many bytes were written, or minus the refusal"
unfoldable pub mend_number : List ℕ → List ℕ → List ℕ → ℤ
mend_number sheet out changes = answer_of (mending_refusal sheet out changes) (length (mended sheet))

-- what it leaves in the one output: the mended sheet and then the bytes as they were, or all as it was
unfoldable pub mend_left : List ℕ → List ℕ → List ℕ → List ℕ
mend_left sheet out changes = cond (eqb (mending_refusal sheet out changes) 0) (mended sheet ++ drop (length (mended sheet)) out) out

-- and in the other: the changes' numbers and then the numbers as they were, or all as it was
unfoldable pub mend_listed : List ℕ → List ℕ → List ℕ → List ℕ
mend_listed sheet out changes = cond (eqb (mending_refusal sheet out changes) 0) (changes_numbers (changes_of sheet) ++ drop (list_size sheet) changes) changes

-- the first record of a sheet, from 1, that fits none of so many cores, 0 where each has its core
unfoldable pub first_out : List ℕ → ℕ → ℕ
first_out sheet number = fits_none (own_tasks (table_of sheet)) number

-- the refusal of `fq_cores`: that of the sheet and the number, then 11, "only where there are cores to write and no room"
unfoldable pub cores_refusal : List ℕ → ℕ → List ℕ → ℕ
cores_refusal sheet number out = or_else (box_refusal sheet number) (cond (eqb (first_out sheet number) 0 && ltb (length out) (count_of sheet)) 11 0)

-- `fq_cores`: "0 where every record has a core", "the first record from 1 that fits none", or minus the refusal
unfoldable pub cores_number : List ℕ → ℕ → List ℕ → ℤ
cores_number sheet number out = answer_of (cores_refusal sheet number out) (first_out sheet number)

-- what it leaves in the output: "a byte each" and then the bytes as they were, or all as it was
unfoldable pub cores_left : List ℕ → ℕ → List ℕ → List ℕ
cores_left sheet number out =
    cond (eqb (cores_refusal sheet number out) 0 && eqb (first_out sheet number) 0) (take (count_of sheet) (cores_of (own_tasks (table_of sheet)) number) ++ drop (count_of sheet) out) out

-- `fq_release`: "1 load the candidate, 0 keep the one in use", or minus the refusal
unfoldable pub release_number : List ℕ → List ℕ → ℕ → ℤ
release_number in_use candidate protected = answer_of (decision in_use candidate protected).refusal (cond (decision in_use candidate protected).loads 1 0)
