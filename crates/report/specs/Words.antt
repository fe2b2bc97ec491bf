-- The program's words as bytes.
use Rattle.std.specs.Prelude.{ℕ, List, [], ◌∷◌}

-- "interval "
abbrev pub interval_word : List ℕ
interval_word = 105 ∷ 110 ∷ 116 ∷ 101 ∷ 114 ∷ 118 ∷ 97 ∷ 108 ∷ 32 ∷ []

-- "task "
abbrev pub task_word : List ℕ
task_word = 116 ∷ 97 ∷ 115 ∷ 107 ∷ 32 ∷ []

-- "late"
abbrev pub late_word : List ℕ
late_word = 108 ∷ 97 ∷ 116 ∷ 101 ∷ []

-- "pass"
abbrev pub pass_word : List ℕ
pass_word = 112 ∷ 97 ∷ 115 ∷ 115 ∷ []

-- "end "
abbrev pub end_word : List ℕ
end_word = 101 ∷ 110 ∷ 100 ∷ 32 ∷ []

-- "refused "
abbrev pub refused_word : List ℕ
refused_word = 114 ∷ 101 ∷ 102 ∷ 117 ∷ 115 ∷ 101 ∷ 100 ∷ 32 ∷ []

-- "least "
abbrev pub least_word : List ℕ
least_word = 108 ∷ 101 ∷ 97 ∷ 115 ∷ 116 ∷ 32 ∷ []

-- "attempts "
abbrev pub attempts_word : List ℕ
attempts_word = 97 ∷ 116 ∷ 116 ∷ 101 ∷ 109 ∷ 112 ∷ 116 ∷ 115 ∷ 32 ∷ []

-- "backups "
abbrev pub backups_word : List ℕ
backups_word = 98 ∷ 97 ∷ 99 ∷ 107 ∷ 117 ∷ 112 ∷ 115 ∷ 32 ∷ []

-- "idle "
abbrev pub idle_word : List ℕ
idle_word = 105 ∷ 100 ∷ 108 ∷ 101 ∷ 32 ∷ []

-- "released "
abbrev pub released_word : List ℕ
released_word = 114 ∷ 101 ∷ 108 ∷ 101 ∷ 97 ∷ 115 ∷ 101 ∷ 100 ∷ 32 ∷ []

-- "finished "
abbrev pub finished_word : List ℕ
finished_word = 102 ∷ 105 ∷ 110 ∷ 105 ∷ 115 ∷ 104 ∷ 101 ∷ 100 ∷ 32 ∷ []

-- "missed "
abbrev pub missed_word : List ℕ
missed_word = 109 ∷ 105 ∷ 115 ∷ 115 ∷ 101 ∷ 100 ∷ 32 ∷ []

-- "unfinished "
abbrev pub unfinished_word : List ℕ
unfinished_word = 117 ∷ 110 ∷ 102 ∷ 105 ∷ 110 ∷ 105 ∷ 115 ∷ 104 ∷ 101 ∷ 100 ∷ 32 ∷ []

-- "differs "
abbrev pub differs_word : List ℕ
differs_word = 100 ∷ 105 ∷ 102 ∷ 102 ∷ 101 ∷ 114 ∷ 115 ∷ 32 ∷ []

-- "fits none "
abbrev pub fits_none_word : List ℕ
fits_none_word = 102 ∷ 105 ∷ 116 ∷ 115 ∷ 32 ∷ 110 ∷ 111 ∷ 110 ∷ 101 ∷ 32 ∷ []

-- "none"
abbrev pub none_word : List ℕ
none_word = 110 ∷ 111 ∷ 110 ∷ 101 ∷ []

-- "accepted"
abbrev pub accepted_word : List ℕ
accepted_word = 97 ∷ 99 ∷ 99 ∷ 101 ∷ 112 ∷ 116 ∷ 101 ∷ 100 ∷ []

-- "load in use"
abbrev pub in_use_word : List ℕ
in_use_word = 108 ∷ 111 ∷ 97 ∷ 100 ∷ 32 ∷ 105 ∷ 110 ∷ 32 ∷ 117 ∷ 115 ∷ 101 ∷ []

-- "load candidate"
abbrev pub candidate_word : List ℕ
candidate_word = 108 ∷ 111 ∷ 97 ∷ 100 ∷ 32 ∷ 99 ∷ 97 ∷ 110 ∷ 100 ∷ 105 ∷ 100 ∷ 97 ∷ 116 ∷ 101 ∷ []

-- "record "
abbrev pub record_word : List ℕ
record_word = 114 ∷ 101 ∷ 99 ∷ 111 ∷ 114 ∷ 100 ∷ 32 ∷ []

-- " core "
abbrev pub core_word : List ℕ
core_word = 32 ∷ 99 ∷ 111 ∷ 114 ∷ 101 ∷ 32 ∷ []

-- "length"
abbrev pub length_word : List ℕ
length_word = 108 ∷ 101 ∷ 110 ∷ 103 ∷ 116 ∷ 104 ∷ []

-- " deadline"
abbrev pub deadline_word : List ℕ
deadline_word = 32 ∷ 100 ∷ 101 ∷ 97 ∷ 100 ∷ 108 ∷ 105 ∷ 110 ∷ 101 ∷ []

-- " fault priority"
abbrev pub fault_priority_word : List ℕ
fault_priority_word = 32 ∷ 102 ∷ 97 ∷ 117 ∷ 108 ∷ 116 ∷ 32 ∷ 112 ∷ 114 ∷ 105 ∷ 111 ∷ 114 ∷ 105 ∷ 116 ∷ 121 ∷ []

-- "line "
abbrev pub text_line_word : List ℕ
text_line_word = 108 ∷ 105 ∷ 110 ∷ 101 ∷ 32 ∷ []

-- " line "
abbrev pub line_word : List ℕ
line_word = 32 ∷ 108 ∷ 105 ∷ 110 ∷ 101 ∷ 32 ∷ []

-- " column "
abbrev pub column_word : List ℕ
column_word = 32 ∷ 99 ∷ 111 ∷ 108 ∷ 117 ∷ 109 ∷ 110 ∷ 32 ∷ []

-- " "
abbrev pub space : List ℕ
space = 32 ∷ []

-- the end of a line
abbrev pub newline : List ℕ
newline = 10 ∷ []
