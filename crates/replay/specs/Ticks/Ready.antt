-- "The set of ready levels is kept as bits": a set of numbers as the binary digits of one number, and the set of ready priorities.
use Rattle.std.specs.Prelude.{ℕ, zero, suc, ◌+◌, ◌*◌, ◌^◌, Bool, List}
use Rattle.places.specs.Places.{some_below, one_if}
use Rattle.sheet.specs.declared.Record.{Record}
use Rattle.sheet.specs.Layout.{record_at}
use Rattle.replay.specs.declared.Cell.{Cell}
use Rattle.replay.specs.Ticks.Cells.{cell_at}
use Rattle.replay.specs.Ticks.Runner.{is_at}

-- the numbers below n where the test holds, each a digit
unfoldable pub bits_of : (ℕ → Bool) → ℕ → ℕ
bits_of test zero = 0
bits_of test (suc n) = one_if (test n) * 2 ^ n + bits_of test n

-- the priorities of the ready jobs, priority 1 the lowest bit and priority 8 the highest
unfoldable pub ready_priorities : List Record → List Cell → ℕ
ready_priorities tasks cells = bits_of (λ below. some_below (is_at (record_at tasks) (cell_at cells) (below + 1)) 8) 8
