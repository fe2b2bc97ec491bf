-- The rules of a log said over its ticks, counted from 0, by what the log itself marks: no machine and no countdown; and those of a replay, row by row in the order they are tried. A second reading, which the refusals are proved to follow; no public promise cites it.
use Rattle.std.specs.Prelude.{◌≡◌, ℕ, ◌+◌, ◌*◌, ◌/◌, ◌%◌, ◌<◌, ◌≤◌, Bool, true, ◌⊎◌, List, [], ◌∷◌, length, ◌≢◌, slice_index}
use Rattle.places.specs.Places.{joined_below}
use Rattle.places.specs.Refusals.{Row, row}
use Rattle.sheet.specs.declared.Record.{Record}
use Rattle.sheet.specs.Broken.{WholeNumber}
use Rattle.replay.specs.Ticks.Tick.{is_released, is_marked}
use Rattle.replay.specs.Logs.Shown.{log_in}

-- "A log has two bytes per tick"
abbrev pub ticks_of : List ℕ → ℕ
ticks_of log = length log / 2

unfoldable pub releases_at : List ℕ → ℕ → ℕ
releases_at log time = slice_index log (2 * time)

unfoldable pub faults_at : List ℕ → ℕ → ℕ
faults_at log time = slice_index log (2 * time + 1)

-- marked at the time, and at an earlier one less than the span before
abbrev pub Sooner : (ℕ → Bool) → ℕ → ℕ → Type 0
Sooner marked span time = (marked time ≡ true) × ((earlier : ℕ) × (earlier < time) × (marked earlier ≡ true) × (time < earlier + span))

-- the rules for the tick at a time: n is the count, each task at the slot of its priority
unfoldable pub tick_rows : ℕ → ℕ → (ℕ → Record) → List ℕ → ℕ → List Row
tick_rows n interval tasks log time =
    -- "a release bit above n or one of the seven bits set"
    row 15 (((slot : ℕ) × (n ≤ slot) × (is_released (releases_at log time) slot ≡ true)) ⊎ (faults_at log time % 128 ≢ 0)) ∷
    -- "a release sooner than T after that task's last"
    row 16 ((slot : ℕ) × (slot < 8) × Sooner (λ t. is_released (releases_at log t) slot) (tasks slot).period time) ∷
    -- "a fault sooner than E after the last"
    row 17 (Sooner (λ t. is_marked (faults_at log t)) interval time) ∷
    []

-- what is tried on a log: "14 odd length, then tick by tick 15 .. 16 .. 17"
abbrev pub log_rows : ℕ → ℕ → (ℕ → Record) → List ℕ → List Row
log_rows n interval tasks log = row 14 (length log % 2 ≢ 0) ∷ joined_below (tick_rows n interval tasks log) (ticks_of log)

-- what is tried on a supplier's record: "14 now for a length that is not a multiple of three", then the same on the log that it contains
abbrev pub supplied_rows : ℕ → ℕ → (ℕ → Record) → List ℕ → List Row
supplied_rows n interval tasks supplied = row 14 (length supplied % 3 ≢ 0) ∷ joined_below (tick_rows n interval tasks (log_in supplied)) (length supplied / 3)

-- the numbers of the rows of both
abbrev pub LogNumber : ℕ → Type 0
LogNumber r = (14 ≤ r) × (r ≤ 17)

-- the numbers of the rows of a replay, and of a check, a sheet's and then a log's
abbrev pub ReplayNumber : ℕ → Type 0
ReplayNumber r = WholeNumber r ⊎ LogNumber r
