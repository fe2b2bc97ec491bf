-- `rows::list::figure` meets its contract: before each turn the place is that of the figure reached. Assumes nothing.
use Rattle.std.proofs.Common.{◌≡◌, ◌≤◌}
use Rattle.rows.specs.Lists.{field_at}
use Rattle.rows.proofs.list.figure.Given as goal

abbrev pub invariant-loop-passed : goal.invariant-loop-passed
invariant-loop-passed l = (l.passed ≤ l.which) × (l.place ≡ field_at l.list l.start l.passed)
