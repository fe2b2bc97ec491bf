-- A machine tick by tick along a log: the machine before each tick, and what the ticks add to the counts as plain numbers, without a bound. Theorems speak of them; no public promise does.
use Rattle.std.specs.Prelude.{ℕ, zero, suc, ◌+◌, List, [], ◌∷◌}
use Rattle.replay.specs.declared.Tally.{Tally}
use Rattle.replay.specs.declared.Machine.{Machine}
use Rattle.replay.specs.Ticks.Counts.{no_tally}
use Rattle.replay.specs.Ticks.Machines.{tick_gains, tick}
use Rattle.replay.specs.Logs.Positions.{releases_at, faults_at}

-- the machine before the tick at a time
unfoldable pub machine_at : Machine → List ℕ → ℕ → Machine
machine_at m log zero = m
machine_at m log (suc time) = tick (machine_at m log time) (releases_at log time) (faults_at log time)

-- two tallies added
unfoldable pub plus : Tally → Tally → Tally
plus a b =
    record {
      first_attempts = a.first_attempts + b.first_attempts;
      backups = a.backups + b.backups;
      idle = a.idle + b.idle;
      released = a.released + b.released;
      finished = a.finished + b.finished;
      missed = a.missed + b.missed;
    }

-- what all ticks of a log add
unfoldable pub totals_over : Machine → List ℕ → Tally
totals_over m [] = no_tally
totals_over m (releases ∷ []) = no_tally
totals_over m (releases ∷ faults ∷ log) = plus (tick_gains m releases faults) (totals_over (tick m releases faults) log)
