-- `run_rows::walks::visited` is safe and ends; nothing has to hold from turn to turn. Assumes nothing.
use Rattle.run_rows.proofs.walks.visited.Given as goal

abbrev pub invariant-loop-visits : goal.invariant-loop-visits
invariant-loop-visits l = Unit {0}
