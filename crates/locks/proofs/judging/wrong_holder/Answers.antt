-- `locks::judging::wrong_holder` meets its contract. Assumes nothing.
use Rattle.locks.specs.Rules.{wrong_holder}
use Rattle.locks.proofs.judging.wrong_holder.Goals as goal

pub returns : goal.returns
unfolding wrong_holder
returns c = simp c.is_user.ensures
