-- What a line does to what is read of a text, and what a text is understood as at its end.
use Rattle.std.specs.Prelude.{ℕ, ◌+◌, Bool, cond, ◌&&◌, ◌||◌, List, eqb, length, get_or, replicate}
use Rattle.cells.specs.Cells.{part_of}
use Rattle.lines.specs.declared.Settings.{Settings}
use Rattle.lines.specs.declared.Layout.{Layout}
use Rattle.lines.specs.declared.Reading.{Reading}
use Rattle.lines.specs.declared.Figures.{Figures}
use Rattle.lines.specs.declared.Understood.{Understood}
use Rattle.lines.specs.Troubles.{no_trouble, task_at, is_refused, fails_at_end}
use Rattle.lines.specs.Settings.{is_given}
use Rattle.lines.specs.Columns.{has_column}
use Rattle.lines.specs.Lines.{line_read}

-- a byte order mark
unfoldable pub has_mark : List ℕ → Bool
has_mark line = eqb (get_or line 0 0) 239 && eqb (get_or line 1 0) 187 && eqb (get_or line 2 0) 191

-- "a byte order mark at its very start is passed over"
unfoldable pub unmarked : ℕ → List ℕ → List ℕ
unmarked number line = cond (eqb number 1 && has_mark line) (part_of line 3 (length line)) line

-- a line at its end: 43, "a longer line is refused"
unfoldable pub content_taken : Reading → ℕ → List ℕ → Bool → Reading
content_taken r number line over = cond (is_refused r) r (cond over (fails_at_end r number line 43 0) (line_read r number line))

-- `read_line`: what is read with a further line
unfoldable pub line_taken : Reading → ℕ → List ℕ → Bool → Reading
line_taken r number line over = content_taken r number (unmarked number line) over

-- a setting's value
unfoldable pub setting_at : Settings → ℕ → ℕ
setting_at settings which = get_or settings.values which 0

-- "the answer says which were filled in": 1 the fault priorities, 2 the deadlines, 3 both
unfoldable pub filled_in : Layout → ℕ
filled_in layout = cond (has_column layout 2) 0 1 + cond (has_column layout 5) 0 2

-- no figures
abbrev pub no_figures : Figures
no_figures = record { count = 0; interval = 0; round = 0; share = 0; filled = 0; tasks = replicate 8 (task_at 0) }

-- the figures of a text that is understood
unfoldable pub figures_of : Reading → Figures
figures_of r =
    record {
      count = r.count;
      interval = setting_at r.settings 1;
      round = setting_at r.settings 2;
      share = setting_at r.settings 3;
      filled = filled_in r.layout;
      tasks = r.tasks;
    }

-- what is read at the text's end: 33 where there is no interval
unfoldable pub ended_at : Reading → ℕ → List ℕ → Reading
ended_at r number line = cond (is_refused r || is_given r.settings 1) r (fails_at_end r number line 33 0)

-- the figures, or what is not understood beside none
unfoldable pub answered : Reading → Understood
answered r = cond (is_refused r) (record { trouble = r.trouble; figures = no_figures }) (record { trouble = no_trouble; figures = figures_of r })

-- `answer`: the answer of a text that ends after a line
unfoldable pub answer_at : Reading → ℕ → List ℕ → Understood
answer_at r number line = answered (ended_at r number (unmarked number line))
