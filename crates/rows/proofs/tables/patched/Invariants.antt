-- `rows::tables::patched` meets its contract: before each turn the pairs so far are replaced. Assumes nothing.
use Rattle.std.proofs.Common.{◌≡◌, ◌%◌, ◌≤◌}
use Rattle.rows.specs.Tables.{replaced_to}
use Rattle.rows.proofs.tables.patched.Given as goal

abbrev pub invariant-loop-pair : goal.invariant-loop-pair
invariant-loop-pair l = (l.pair ≤ 8) × (l.fields ≡ replaced_to l.initial.fields l.list l.start (l.first % 256) l.pair)
