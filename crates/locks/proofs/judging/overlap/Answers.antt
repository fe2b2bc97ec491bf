-- `locks::judging::overlap` meets its contract. Assumes nothing.
use Rattle.locks.specs.Rules.{overlap}
use Rattle.locks.proofs.judging.overlap.Goals as goal

pub returns : goal.returns
unfolding overlap
returns c = simp (c.end.ensures, c.end-2.ensures)
