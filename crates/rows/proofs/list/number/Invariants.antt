-- `rows::list::number` meets its contract: before each turn the rest of the digits is still to be read. Assumes nothing.
use Rattle.std.proofs.Common.{◌≡◌, ◌≤◌, max, length}
use Rattle.rows.specs.Lists.{number_at}
use Rattle.rows.proofs.Digits.{read_from}
use Rattle.rows.proofs.list.number.Given as goal

abbrev pub invariant-loop-end : goal.invariant-loop-end
invariant-loop-end l = (l.end ≤ max l.at (length l.list)) × (read_from l.list l.value l.end ≡ number_at l.list l.at)
