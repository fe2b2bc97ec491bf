-- `rows::tables::fields_of` meets its contract: before each turn the fields below the number are filled. Assumes nothing.
use Rattle.std.proofs.Common.{◌≡◌, ◌%◌, ◌≤◌, replicate}
use Rattle.places.specs.Places.{filled_below}
use Rattle.rows.specs.Lists.{figure_of}
use Rattle.rows.proofs.tables.fields_of.Given as goal

abbrev pub invariant-loop-field : goal.invariant-loop-field
invariant-loop-field l = (l.field ≤ 51) × (l.fields ≡ filled_below (λ at_field. figure_of l.base 0 at_field % 65536) l.field (replicate 53 1))
