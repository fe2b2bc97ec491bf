-- The machine over a log, "two bytes per tick".
use Rattle.std.specs.Prelude.{ℕ, List, [], ◌∷◌}
use Rattle.replay.specs.declared.Machine.{Machine}
use Rattle.replay.specs.Ticks.Machines.{tick}

-- the machine after the ticks of a log
unfoldable pub ran_over : Machine → List ℕ → Machine
ran_over m [] = m
ran_over m (releases ∷ []) = m
ran_over m (releases ∷ faults ∷ log) = ran_over (tick m releases faults) log
