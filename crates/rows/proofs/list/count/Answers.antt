-- `rows::list::count` meets its contract: the row is counted, and where it differs once more. Assumes nothing.
use Rattle.rows.specs.Tallies.{counted}
use Rattle.rows.proofs.list.count.Goals as goal

pub returns-then-is_expected : goal.returns-then-is_expected
unfolding counted
returns-then-is_expected c = simp (c.one_more.ensures, c.if-is_expected.true)

pub returns-else-is_expected : goal.returns-else-is_expected
unfolding counted
returns-else-is_expected c = simp (c.one_more.ensures, c.one_more-else-is_expected.ensures, c.if-is_expected.false)
