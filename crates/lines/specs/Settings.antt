-- Lines of settings: the interval, and round and share, "on lines of their own" before the first line of column names or of a task.
use Rattle.std.specs.Prelude.{ℕ, Bool, true, false, cond, not, ◌&&◌, ◌||◌, List, eqb, leb, get_or, set}
use Rattle.cells.specs.declared.Cells.{Cells}
use Rattle.cells.specs.declared.Number.{Number}
use Rattle.cells.specs.Kinds.{is_digit}
use Rattle.cells.specs.Cells.{part_of, cells_of, separator_of}
use Rattle.cells.specs.Numbers.{number_of}
use Rattle.cells.specs.Names.{setting_of}
use Rattle.lines.specs.declared.Settings.{Settings}
use Rattle.lines.specs.declared.Reading.{Reading}
use Rattle.lines.specs.Troubles.{start_of, end_of, cell_of, with_settings, is_refused, fails}

-- the settings: 1 the interval, 2 the round, 3 the share
unfoldable pub is_given : Settings → ℕ → Bool
is_given settings which = get_or settings.given which false

-- one setting more
unfoldable pub with_setting : Settings → ℕ → ℕ → Settings
with_setting settings which value = cond (leb 4 which) settings (record { given = set settings.given which true; values = set settings.values which value })

-- a word that begins as a number does: with a digit, a sign or a point
unfoldable pub begins_number : List ℕ → Bool
begins_number word = is_digit (get_or word 0 0) || eqb (get_or word 0 0) 45 || eqb (get_or word 0 0) 43 || eqb (get_or word 0 0) 46

-- a setting's number, and why it is none
unfoldable pub setting_with : Reading → ℕ → List ℕ → ℕ → ℕ → ℕ → Number → Reading
setting_with r number line which start end value =
    cond (eqb value.refusal 0) (with_settings r (with_setting r.settings which value.value)) (fails r number line start end value.refusal 0)

unfoldable pub setting_to : Reading → ℕ → List ℕ → ℕ → ℕ → ℕ → Reading
setting_to r number line which start end = setting_with r number line which start end (number_of (part_of line start end))

-- "a number by itself (the first such line is the interval)"
unfoldable pub is_lone : Reading → List ℕ → Cells → Bool
is_lone r line words = eqb words.count 1 && not (is_given r.settings 1) && begins_number (cell_of line words 0)

-- "`interval 300`, `interval = 300`, `E: 300`": a name of a setting, and what begins as a number
unfoldable pub is_named_line : List ℕ → Cells → Bool
is_named_line line words = leb 2 words.count && not (eqb (setting_of (cell_of line words 0)) 0) && begins_number (cell_of line words 1)

-- the line's first two cells, with its own separator, are these words
unfoldable pub are_first : Cells → Cells → Bool
are_first words cells = eqb (start_of cells 0) (start_of words 0) && eqb (start_of cells 1) (start_of words 1)

-- no more of round and share
unfoldable pub is_open : Settings → Bool
is_open settings = is_given settings 1 && not (is_given settings 2 || is_given settings 3)

-- "after the interval a line of exactly two numbers is round and share"
unfoldable pub is_pair : Reading → List ℕ → Cells → Bool
is_pair r line words =
    eqb words.count 2 && is_open r.settings && begins_number (cell_of line words 0) && begins_number (cell_of line words 1) && are_first words (cells_of (separator_of line) line)

-- one number too many: 32
unfoldable pub no_more : Reading → ℕ → List ℕ → Cells → Reading
no_more r number line words = cond (is_refused r || leb words.count 2) r (fails r number line (start_of words 2) (end_of words 2) 32 0)

-- a setting by its name: 44 where it was given before
unfoldable pub named_read : Reading → ℕ → List ℕ → Cells → ℕ → Reading
named_read r number line words which =
    cond (is_given r.settings which) (fails r number line (start_of words 0) (end_of words 0) 44 0) (no_more (setting_to r number line which (start_of words 1) (end_of words 1)) number line words)

-- round and share
unfoldable pub share_after : Reading → ℕ → List ℕ → Cells → Reading
share_after r number line words = cond (is_refused r) r (setting_to r number line 3 (start_of words 1) (end_of words 1))

unfoldable pub pair_read : Reading → ℕ → List ℕ → Cells → Reading
pair_read r number line words = share_after (setting_to r number line 2 (start_of words 0) (end_of words 0)) number line words
