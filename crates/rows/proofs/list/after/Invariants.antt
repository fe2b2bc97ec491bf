-- `rows::list::after` meets its contract: before each turn the byte is still to be found from the place on. Assumes nothing.
use Rattle.std.proofs.Common.{◌≡◌, ◌≤◌, max, length}
use Rattle.rows.specs.Lists.{after}
use Rattle.rows.proofs.list.after.Given as goal

abbrev pub invariant-loop-place : goal.invariant-loop-place
invariant-loop-place l = (l.place ≤ max l.start (length l.list)) × (after l.list l.place l.mark ≡ after l.list l.start l.mark)
