-- Whole lines as literal bytes, by computation: document 01's "Whole output" of Sheet A line by line, as document 02's request 2 has it, a task that is late without a figure, a refused sheet, and a line of each kind that the commands print. Assumes nothing.
use Prim.Native.Nat.{ℕ}
use mathlib.Core.Path.{◌≡◌, refl}
use mathlib.Core.List.{List, [], ◌∷◌}
use lib.IntN.{pos, negsuc}
use lib.ListN.{length}
use Rattle.places.specs.Places.{joined_below}
use Rattle.analysis.specs.declared.Outcome.TheVariants.{OnTime, Late}
use Rattle.analysis.specs.declared.Slack.{Slack}
use Rattle.analysis.specs.declared.Slack.TheVariants.{Figure, NoFigure}
use Rattle.analysis.specs.declared.Entry.{Entry}
use Rattle.mend.specs.declared.Field.{Field}
use Rattle.mend.specs.declared.Field.TheVariants.{Length, Deadline, FaultPriority}
use Rattle.mend.specs.declared.Change.{Change}
use Rattle.report.specs.declared.Line.{Line}
use Rattle.report.specs.declared.Name.TheVariants.{Interval, Least, End, Refused, Attempts, Backups, Idle, Released, Finished, Missed, Unfinished, Differs, FitsNone}
use Rattle.report.specs.declared.Saying.TheVariants.{NoInterval, Accepted, LoadInUse, LoadCandidate}
use Rattle.report.specs.Decimal.{decimal_within, decimal, signed}
use Rattle.report.specs.Texts.{line_of, word_of, named_text, saying_text, late_text, outcome_text, task_text, entry_text, choice_text, core_text, changed_text, told_text, change_text, line_change_text, refused_at_text}
use Rattle.report.specs.Pages.{text_of}

-- three entries as a choice
unfoldable pub choice : ℕ → ℕ → ℕ → List ℕ
choice first second third = first ∷ second ∷ third ∷ 0 ∷ 0 ∷ 0 ∷ 0 ∷ 0 ∷ []

-- an entry that is on time, with its slack
unfoldable pub timed : ℕ → ℕ → Entry
timed time slack = record { deadline = 0; outcome = OnTime time; slack = Figure (pos slack) }

-- an entry that is late, with its slack
unfoldable pub late : Slack → Entry
late slack = record { deadline = 0; outcome = Late; slack = slack }

-- a change of a record's field, or of the length
unfoldable pub change : ℕ → Field → ℕ → ℕ → Change
change place field old new = record { place = place; field = field; old = old; new = new }

-- a row: a line that a call answers, and the bytes that are printed
pub data Row : Type 0 where
  prints : Line → List ℕ → Row

-- each line's text is its bytes, and its length is theirs
pub data All : List Row → Type 0 where
  none : All []
  one : {line : Line} {bytes : List ℕ} {rest : List Row} → text_of line ≡ bytes → line.len ≡ length bytes → All rest → All (prints line bytes ∷ rest)

-- the lines in document 01's order, and then those of the commands; the place of a task counted from 0
unfoldable pub lines : List Row
lines =
    -- interval 9\n
    prints (line_of (named_text Interval 9)) (105 ∷ 110 ∷ 116 ∷ 101 ∷ 114 ∷ 118 ∷ 97 ∷ 108 ∷ 32 ∷ 57 ∷ 10 ∷ []) ∷
    -- task 1 8\n
    prints (line_of (task_text 0 (timed 8 4))) (116 ∷ 97 ∷ 115 ∷ 107 ∷ 32 ∷ 49 ∷ 32 ∷ 56 ∷ 10 ∷ []) ∷
    -- task 2 late -3\n
    prints (line_of (task_text 1 (late (Figure (negsuc 2))))) (116 ∷ 97 ∷ 115 ∷ 107 ∷ 32 ∷ 50 ∷ 32 ∷ 108 ∷ 97 ∷ 116 ∷ 101 ∷ 32 ∷ 45 ∷ 51 ∷ 10 ∷ []) ∷
    -- task 2 late\n
    prints (line_of (task_text 1 (late NoFigure))) (116 ∷ 97 ∷ 115 ∷ 107 ∷ 32 ∷ 50 ∷ 32 ∷ 108 ∷ 97 ∷ 116 ∷ 101 ∷ 10 ∷ []) ∷
    -- task 3 35\n
    prints (line_of (task_text 2 (timed 35 0))) (116 ∷ 97 ∷ 115 ∷ 107 ∷ 32 ∷ 51 ∷ 32 ∷ 51 ∷ 53 ∷ 10 ∷ []) ∷
    -- pass 1 1 1\n
    prints (line_of (choice_text 3 (choice 1 1 1))) (112 ∷ 97 ∷ 115 ∷ 115 ∷ 32 ∷ 49 ∷ 32 ∷ 49 ∷ 32 ∷ 49 ∷ 10 ∷ []) ∷
    -- pass 1 2 1\n
    prints (line_of (choice_text 3 (choice 1 2 1))) (112 ∷ 97 ∷ 115 ∷ 115 ∷ 32 ∷ 49 ∷ 32 ∷ 50 ∷ 32 ∷ 49 ∷ 10 ∷ []) ∷
    -- end 2\n
    prints (line_of (named_text End 2)) (101 ∷ 110 ∷ 100 ∷ 32 ∷ 50 ∷ 10 ∷ []) ∷
    -- refused 4\n
    prints (line_of (named_text Refused 4)) (114 ∷ 101 ∷ 102 ∷ 117 ∷ 115 ∷ 101 ∷ 100 ∷ 32 ∷ 52 ∷ 10 ∷ []) ∷
    -- least 9\n
    prints (line_of (named_text Least 9)) (108 ∷ 101 ∷ 97 ∷ 115 ∷ 116 ∷ 32 ∷ 57 ∷ 10 ∷ []) ∷
    -- attempts 0\n
    prints (line_of (named_text Attempts 0)) (97 ∷ 116 ∷ 116 ∷ 101 ∷ 109 ∷ 112 ∷ 116 ∷ 115 ∷ 32 ∷ 48 ∷ 10 ∷ []) ∷
    -- backups 10\n
    prints (line_of (named_text Backups 10)) (98 ∷ 97 ∷ 99 ∷ 107 ∷ 117 ∷ 112 ∷ 115 ∷ 32 ∷ 49 ∷ 48 ∷ 10 ∷ []) ∷
    -- idle 2\n
    prints (line_of (named_text Idle 2)) (105 ∷ 100 ∷ 108 ∷ 101 ∷ 32 ∷ 50 ∷ 10 ∷ []) ∷
    -- released 3\n
    prints (line_of (named_text Released 3)) (114 ∷ 101 ∷ 108 ∷ 101 ∷ 97 ∷ 115 ∷ 101 ∷ 100 ∷ 32 ∷ 51 ∷ 10 ∷ []) ∷
    -- finished 4\n
    prints (line_of (named_text Finished 4)) (102 ∷ 105 ∷ 110 ∷ 105 ∷ 115 ∷ 104 ∷ 101 ∷ 100 ∷ 32 ∷ 52 ∷ 10 ∷ []) ∷
    -- missed 5\n
    prints (line_of (named_text Missed 5)) (109 ∷ 105 ∷ 115 ∷ 115 ∷ 101 ∷ 100 ∷ 32 ∷ 53 ∷ 10 ∷ []) ∷
    -- unfinished 6\n
    prints (line_of (named_text Unfinished 6)) (117 ∷ 110 ∷ 102 ∷ 105 ∷ 110 ∷ 105 ∷ 115 ∷ 104 ∷ 101 ∷ 100 ∷ 32 ∷ 54 ∷ 10 ∷ []) ∷
    -- differs 7\n
    prints (line_of (named_text Differs 7)) (100 ∷ 105 ∷ 102 ∷ 102 ∷ 101 ∷ 114 ∷ 115 ∷ 32 ∷ 55 ∷ 10 ∷ []) ∷
    -- fits none 8\n
    prints (line_of (named_text FitsNone 8)) (102 ∷ 105 ∷ 116 ∷ 115 ∷ 32 ∷ 110 ∷ 111 ∷ 110 ∷ 101 ∷ 32 ∷ 56 ∷ 10 ∷ []) ∷
    -- none\n
    prints (line_of (saying_text NoInterval)) (110 ∷ 111 ∷ 110 ∷ 101 ∷ 10 ∷ []) ∷
    -- accepted\n
    prints (line_of (saying_text Accepted)) (97 ∷ 99 ∷ 99 ∷ 101 ∷ 112 ∷ 116 ∷ 101 ∷ 100 ∷ 10 ∷ []) ∷
    -- load in use\n
    prints (line_of (saying_text LoadInUse)) (108 ∷ 111 ∷ 97 ∷ 100 ∷ 32 ∷ 105 ∷ 110 ∷ 32 ∷ 117 ∷ 115 ∷ 101 ∷ 10 ∷ []) ∷
    -- load candidate\n
    prints (line_of (saying_text LoadCandidate)) (108 ∷ 111 ∷ 97 ∷ 100 ∷ 32 ∷ 99 ∷ 97 ∷ 110 ∷ 100 ∷ 105 ∷ 100 ∷ 97 ∷ 116 ∷ 101 ∷ 10 ∷ []) ∷
    -- record 1 core 2\n
    prints (line_of (core_text 0 2)) (114 ∷ 101 ∷ 99 ∷ 111 ∷ 114 ∷ 100 ∷ 32 ∷ 49 ∷ 32 ∷ 99 ∷ 111 ∷ 114 ∷ 101 ∷ 32 ∷ 50 ∷ 10 ∷ []) ∷
    -- length 40 30\n
    prints (line_of (change_text (change 0 Length 40 30))) (108 ∷ 101 ∷ 110 ∷ 103 ∷ 116 ∷ 104 ∷ 32 ∷ 52 ∷ 48 ∷ 32 ∷ 51 ∷ 48 ∷ 10 ∷ []) ∷
    -- record 2 deadline 60 50\n
    prints (line_of (change_text (change 2 Deadline 60 50))) (114 ∷ 101 ∷ 99 ∷ 111 ∷ 114 ∷ 100 ∷ 32 ∷ 50 ∷ 32 ∷ 100 ∷ 101 ∷ 97 ∷ 100 ∷ 108 ∷ 105 ∷ 110 ∷ 101 ∷ 32 ∷ 54 ∷ 48 ∷ 32 ∷ 53 ∷ 48 ∷ 10 ∷ []) ∷
    -- record 3 fault priority 0 1\n
    prints (line_of (change_text (change 3 FaultPriority 0 1))) (114 ∷ 101 ∷ 99 ∷ 111 ∷ 114 ∷ 100 ∷ 32 ∷ 51 ∷ 32 ∷ 102 ∷ 97 ∷ 117 ∷ 108 ∷ 116 ∷ 32 ∷ 112 ∷ 114 ∷ 105 ∷ 111 ∷ 114 ∷ 105 ∷ 116 ∷ 121 ∷ 32 ∷ 48 ∷ 32 ∷ 49 ∷ 10 ∷ []) ∷
    -- line 4 deadline 60 50\n
    prints (line_of (line_change_text 4 (change 2 Deadline 60 50))) (108 ∷ 105 ∷ 110 ∷ 101 ∷ 32 ∷ 52 ∷ 32 ∷ 100 ∷ 101 ∷ 97 ∷ 100 ∷ 108 ∷ 105 ∷ 110 ∷ 101 ∷ 32 ∷ 54 ∷ 48 ∷ 32 ∷ 53 ∷ 48 ∷ 10 ∷ []) ∷
    -- refused 31 line 4 column 12\n
    prints (line_of (refused_at_text 31 4 12)) (114 ∷ 101 ∷ 102 ∷ 117 ∷ 115 ∷ 101 ∷ 100 ∷ 32 ∷ 51 ∷ 49 ∷ 32 ∷ 108 ∷ 105 ∷ 110 ∷ 101 ∷ 32 ∷ 52 ∷ 32 ∷ 99 ∷ 111 ∷ 108 ∷ 117 ∷ 109 ∷ 110 ∷ 32 ∷ 49 ∷ 50 ∷ 10 ∷ []) ∷
    []

-- each of them is what is printed
pub lines-hold : All lines
unfolding lines choice timed late change line_of text_of named_text word_of saying_text task_text outcome_text late_text choice_text entry_text core_text change_text line_change_text told_text changed_text refused_at_text joined_below signed decimal decimal_within
lines-hold = one refl refl (one refl refl (one refl refl (one refl refl (one refl refl (one refl refl (one refl refl (one refl refl (one refl refl (one refl refl (one refl refl (one refl refl (one refl refl (one refl refl (one refl refl (one refl refl (one refl refl (one refl refl (one refl refl (one refl refl (one refl refl (one refl refl (one refl refl (one refl refl (one refl refl (one refl refl (one refl refl (one refl refl (one refl refl none))))))))))))))))))))))))))))
