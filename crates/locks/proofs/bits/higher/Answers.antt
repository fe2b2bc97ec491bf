-- `locks::bits::higher` meets its contract. Assumes nothing.
use Rattle.locks.proofs.bits.higher.Goals as goal

pub returns-then-is_here : goal.returns-then-is_here
returns-then-is_here c = simp c.if-is_here.true

pub returns : goal.returns
returns c = simp c.if-is_here.false
