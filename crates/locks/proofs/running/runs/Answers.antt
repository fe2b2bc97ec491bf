-- `locks::running::runs` meets its contract. Assumes nothing.
use Rattle.locks.specs.Jobs.{within}
use Rattle.locks.proofs.running.runs.Goals as goal

pub returns : goal.returns
unfolding within
returns c = simp c.end.ensures
