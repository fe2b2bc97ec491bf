-- A cell as a name: of a column, of a setting, of a task.
use Rattle.std.specs.Prelude.{ℕ, ◌+◌, min, Bool, true, false, cond, not, ◌&&◌, ◌||◌, List, [], ◌∷◌, eqb, ltb, take, set, replicate}
use Rattle.cells.specs.declared.Label.{Label}
use Rattle.cells.specs.declared.Name.{Name}
use Rattle.cells.specs.declared.Spelling.{Spelling}
use Rattle.cells.specs.declared.Named.{Named}
use Rattle.cells.specs.Kinds.{is_control, lower, is_gap, opens, closes}
use Rattle.cells.specs.Numbers.{is_quoted, quotes_refusal, content_of}

-- whether two lists of bytes are the same
unfoldable pub same : List ℕ → List ℕ → Bool
same [] [] = true
same [] (b ∷ m) = false
same (a ∷ l) [] = false
same (a ∷ l) (b ∷ m) = eqb a b && same l m

-- a column's name of which nothing is read yet. Its stage: 0 its letters, 1 a unit in brackets, 2 what stands after them
abbrev pub no_label : Label
no_label = record { stage = 0; length = 0; bytes = replicate 16 0 }

-- longer than any name that is known
unfoldable pub unknown_label : Label → Label
unknown_label label = record { stage = label.stage; length = 17; bytes = label.bytes }

unfoldable pub with_stage : Label → ℕ → Label
with_stage label stage = record { stage = stage; length = label.length; bytes = label.bytes }

-- one letter more
unfoldable pub with_letter : Label → ℕ → Label
with_letter label byte = cond (ltb label.length 16) (record { stage = label.stage; length = label.length + 1; bytes = set label.bytes label.length (lower byte) }) (unknown_label label)

-- a byte of a column's name: "any case; `_`, `-` and blanks inside a name are alike; a unit in brackets at the end is passed over"
unfoldable pub with_byte : Label → ℕ → Label
with_byte label byte =
    cond (eqb label.stage 1) (cond (closes byte) (with_stage label 2) label)
    (cond (is_gap byte) label
    (cond (eqb label.stage 2) (unknown_label label)
    (cond (opens byte) (with_stage label 1) (with_letter label byte))))

unfoldable pub label_from : Label → List ℕ → Label
label_from label [] = label
label_from label (byte ∷ bytes) = label_from (with_byte label byte) bytes

-- the name of a cell in small letters; none where its quotes are wrong
unfoldable pub label_of : List ℕ → Label
label_of cell = cond (eqb (quotes_refusal cell) 0) (label_from no_label (content_of cell)) no_label

-- whether so many letters are a word
unfoldable pub is_word : List ℕ → ℕ → List ℕ → Bool
is_word bytes length word = same (take (min length 16) bytes) word

unfoldable pub is_named : Label → List ℕ → Bool
is_named label word = not (eqb label.stage 1) && is_word label.bytes label.length word

-- "priority", "p"
abbrev pub priority_name : List ℕ
priority_name = 112 ∷ 114 ∷ 105 ∷ 111 ∷ 114 ∷ 105 ∷ 116 ∷ 121 ∷ []

-- "faultpriority", "fault"
abbrev pub fault_priority_name : List ℕ
fault_priority_name = 102 ∷ 97 ∷ 117 ∷ 108 ∷ 116 ∷ 112 ∷ 114 ∷ 105 ∷ 111 ∷ 114 ∷ 105 ∷ 116 ∷ 121 ∷ []

abbrev pub fault_name : List ℕ
fault_name = 102 ∷ 97 ∷ 117 ∷ 108 ∷ 116 ∷ []

-- "cost"
abbrev pub cost_name : List ℕ
cost_name = 99 ∷ 111 ∷ 115 ∷ 116 ∷ []

-- "backup"
abbrev pub backup_name : List ℕ
backup_name = 98 ∷ 97 ∷ 99 ∷ 107 ∷ 117 ∷ 112 ∷ []

-- "deadline"
abbrev pub deadline_name : List ℕ
deadline_name = 100 ∷ 101 ∷ 97 ∷ 100 ∷ 108 ∷ 105 ∷ 110 ∷ 101 ∷ []

-- "period"
abbrev pub period_name : List ℕ
period_name = 112 ∷ 101 ∷ 114 ∷ 105 ∷ 111 ∷ 100 ∷ []

-- "task", "name"
abbrev pub task_name : List ℕ
task_name = 116 ∷ 97 ∷ 115 ∷ 107 ∷ []

abbrev pub name_name : List ℕ
name_name = 110 ∷ 97 ∷ 109 ∷ 101 ∷ []

-- "interval", "round", "share"
abbrev pub interval_name : List ℕ
interval_name = 105 ∷ 110 ∷ 116 ∷ 101 ∷ 114 ∷ 118 ∷ 97 ∷ 108 ∷ []

abbrev pub round_name : List ℕ
round_name = 114 ∷ 111 ∷ 117 ∷ 110 ∷ 100 ∷ []

abbrev pub share_name : List ℕ
share_name = 115 ∷ 104 ∷ 97 ∷ 114 ∷ 101 ∷ []

-- a name of one letter
abbrev pub letter : ℕ → List ℕ
letter byte = byte ∷ []

-- the column of a name: 1 priority or p, 2 fault priority, fault or q, 3 cost or c, 4 backup or b, 5 deadline or d, 6 period or t, 7 task or name, 0 any other
unfoldable pub column_named : Label → ℕ
column_named label =
    cond (is_named label priority_name || is_named label (letter 112)) 1
    (cond (is_named label fault_priority_name || is_named label fault_name || is_named label (letter 113)) 2
    (cond (is_named label cost_name || is_named label (letter 99)) 3
    (cond (is_named label backup_name || is_named label (letter 98)) 4
    (cond (is_named label deadline_name || is_named label (letter 100)) 5
    (cond (is_named label period_name || is_named label (letter 116)) 6
    (cond (is_named label task_name || is_named label name_name) 7 0))))))

-- `column_of`: the column that a cell names
unfoldable pub column_of : List ℕ → ℕ
column_of cell = column_named (label_of cell)

-- the setting of a name: 1 interval or e, 2 round or q, 3 share or s, 0 any other
unfoldable pub setting_named : Label → ℕ
setting_named label =
    cond (is_named label interval_name || is_named label (letter 101)) 1
    (cond (is_named label round_name || is_named label (letter 113)) 2
    (cond (is_named label share_name || is_named label (letter 115)) 3 0))

-- `setting_of`: the setting that a word names
unfoldable pub setting_of : List ℕ → ℕ
setting_of word = setting_named (label_of word)

-- no name
abbrev pub no_name : Name
no_name = record { length = 0; bytes = replicate 32 0 }

-- a task's name of which nothing is read yet
abbrev pub no_spelling : Spelling
no_spelling = record { refusal = 0; odd = false; name = no_name }

unfoldable pub misspelt : ℕ → Spelling
misspelt refusal = record { refusal = refusal; odd = false; name = no_name }

-- one byte more: 41, "a name has at most 32 bytes"
unfoldable pub spelled_with : Spelling → Bool → ℕ → Spelling
spelled_with spelling odd byte =
    let name = spelling.name in
    cond (ltb name.length 32) (record { refusal = 0; odd = odd; name = record { length = name.length + 1; bytes = set name.bytes name.length byte } }) (misspelt 41)

-- a double quote: within quotes the second of two is none; outside of them 42
unfoldable pub spelled_quote : Bool → Spelling → Spelling
spelled_quote quoted spelling =
    cond quoted (cond spelling.odd (record { refusal = 0; odd = false; name = spelling.name }) (spelled_with spelling true 34)) (misspelt 42)

-- a byte of a task's name: "any bytes but control characters", which are 30
unfoldable pub spelled_after : Bool → Spelling → ℕ → Spelling
spelled_after quoted spelling byte =
    cond (eqb spelling.refusal 0) (cond (eqb byte 34) (spelled_quote quoted spelling) (cond (is_control byte) (misspelt 30) (spelled_with spelling false byte))) spelling

unfoldable pub spelled_from : Bool → Spelling → List ℕ → Spelling
spelled_from quoted spelling [] = spelling
spelled_from quoted spelling (byte ∷ bytes) = spelled_from quoted (spelled_after quoted spelling byte) bytes

unfoldable pub named_by : Spelling → Named
named_by spelling = record { refusal = spelling.refusal; name = spelling.name }

-- `name_of`: a cell as a task's name
unfoldable pub name_of : List ℕ → Named
name_of cell = cond (eqb (quotes_refusal cell) 0) (named_by (spelled_from (is_quoted cell) no_spelling (content_of cell))) (named_by (misspelt 42))
