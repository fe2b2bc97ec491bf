-- `locks::judging::is_wrong` meets its contract. Assumes nothing.
use Rattle.locks.specs.Rules.{is_wrong}
use Rattle.locks.proofs.judging.is_wrong.Goals as goal

pub returns : goal.returns
unfolding is_wrong
returns c = simp c.end.ensures
