-- `lines::refusing::fails` meets its contract. Assumes nothing.
use Rattle.lines.specs.Troubles.{fails, with_trouble}
use Rattle.lines.proofs.refusing.fails.Goals as goal

pub returns : goal.returns
unfolding fails with_trouble
returns c = simp (c.after.ensures, c.excerpt_of.ensures, c.part.ensures)
