-- "The answer is seven counts": what a tick adds to them. They have 64 bits, and wrap.
use Rattle.std.specs.Prelude.{ℕ, ◌+◌, ◌-◌, ◌%◌, ◌^◌, cond, not, ◌&&◌, List, ◌==◌}
use Rattle.places.specs.Places.{one_if, count_below}
use Rattle.replay.specs.declared.Cell.{Cell}
use Rattle.replay.specs.declared.Tally.{Tally}
use Rattle.replay.specs.declared.Counts.{Counts}
use Rattle.replay.specs.Ticks.Tick.{is_released}
use Rattle.replay.specs.Ticks.Cells.{no_cell, cell_at, is_ready}
use Rattle.replay.specs.Ticks.Step.{is_missed}

-- the cell of a priority, and for 0 one without a job
unfoldable pub cell_of : List Cell → ℕ → Cell
cell_of cells priority = cond (priority == 0) no_cell (cell_at cells (priority - 1))

-- "ticks of first attempts, backups and idling (together all ticks); jobs released and, adding up to them, finished, missed and unfinished": what one tick adds, given its releases, the task that runs, the cells once releases are in and the cells before the tick ends
unfoldable pub gains : ℕ → ℕ → List Cell → List Cell → Tally
gains releases runner before after =
    record {
      first_attempts = one_if (not (runner == 0) && not (cell_of before runner).is_backup);
      backups = one_if (not (runner == 0) && (cell_of before runner).is_backup);
      idle = one_if (runner == 0);
      released = count_below (is_released releases) 8;
      finished = one_if (not (runner == 0) && (cell_of after runner).left == 0);
      missed = count_below (λ slot. is_missed (cell_at after slot)) 8;
    }

-- nothing counted yet
abbrev pub no_tally : Tally
no_tally = record { first_attempts = 0; backups = 0; idle = 0; released = 0; finished = 0; missed = 0 }

-- the sum of two numbers on 64 bits
abbrev pub wrapped : ℕ → ℕ → ℕ
wrapped a b = (a + b) % 2 ^ 64

-- two tallies added, each count on 64 bits
unfoldable pub added : Tally → Tally → Tally
added a b =
    record {
      first_attempts = wrapped a.first_attempts b.first_attempts;
      backups = wrapped a.backups b.backups;
      idle = wrapped a.idle b.idle;
      released = wrapped a.released b.released;
      finished = wrapped a.finished b.finished;
      missed = wrapped a.missed b.missed;
    }

-- the jobs that are unfinished: those with work left
unfoldable pub unfinished_in : List Cell → ℕ
unfinished_in cells = count_below (λ slot. is_ready (cell_at cells slot)) 8

-- the seven counts
unfoldable pub counts_from : Tally → ℕ → Counts
counts_from t unfinished =
    record {
      first_attempts = t.first_attempts;
      backups = t.backups;
      idle = t.idle;
      released = t.released;
      finished = t.finished;
      missed = t.missed;
      unfinished = unfinished;
    }

-- seven zeros
abbrev pub no_counts : Counts
no_counts = record { first_attempts = 0; backups = 0; idle = 0; released = 0; finished = 0; missed = 0; unfinished = 0 }
