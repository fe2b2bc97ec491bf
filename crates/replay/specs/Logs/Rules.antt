-- "Refusals, after a sheet's": 19, then 14, then tick by tick 15, 16 and 17.
use Rattle.std.specs.Prelude.{ℕ, ◌%◌, Bool, cond, not, ◌&&◌, ◌||◌, List, [], ◌∷◌, length, ◌==◌}
use Rattle.places.specs.Places.{some_below}
use Rattle.places.specs.Refusals.{or_else}
use Rattle.replay.specs.declared.Cell.{Cell}
use Rattle.replay.specs.declared.Machine.{Machine}
use Rattle.replay.specs.Ticks.Tick.{is_released, is_above, is_marked, has_other}
use Rattle.replay.specs.Ticks.Cells.{cell_at}
use Rattle.replay.specs.Ticks.Machines.{tick}

-- 15 "a release bit above n or one of the seven bits set"
unfoldable pub is_strange : ℕ → ℕ → ℕ → Bool
is_strange n releases faults = is_above releases n || has_other faults

-- a release of the slot while its wait lasts
unfoldable pub is_early : ℕ → ℕ → Cell → Bool
is_early releases slot cell = is_released releases slot && not (cell.wait == 0)

-- 16 "a release sooner than T after that task's last"
unfoldable pub some_early : ℕ → (ℕ → Cell) → Bool
some_early releases cells = some_below (λ slot. is_early releases slot (cells slot)) 8

-- 17 "a fault sooner than E after the last"
unfoldable pub is_hasty : ℕ → ℕ → Bool
is_hasty gap faults = is_marked faults && not (gap == 0)

-- the first of these that a tick breaks, or 0
unfoldable pub tick_refusal : Machine → ℕ → ℕ → ℕ
tick_refusal m releases faults =
    cond (is_strange m.count releases faults) 15
    (cond (some_early releases (cell_at m.cells)) 16
    (cond (is_hasty m.gap faults) 17 0))

-- "then tick by tick"
unfoldable pub ticks_refusal : Machine → List ℕ → ℕ
ticks_refusal m [] = 0
ticks_refusal m (releases ∷ []) = 0
ticks_refusal m (releases ∷ faults ∷ log) = or_else (tick_refusal m releases faults) (ticks_refusal (tick m releases faults) log)

-- 14 "odd length", then the ticks
unfoldable pub log_refusal : Machine → List ℕ → ℕ
log_refusal m log = cond (length log % 2 == 0) (ticks_refusal m log) 14
