-- `fidhaqooban::outputs::put_entries` meets its contract: before each turn the numbers below the place are put. Assumes nothing.
use Prim.Native.Nat.{◌/◌, ◌%◌, ◌≤◌}
use mathlib.Core.Path.{◌≡◌}
use lib.ListN.{length, get_or}
use Rattle.places.specs.Places.{filled_below}
use Rattle.analysis.specs.Common.Entries.{no_entry}
use Rattle.fidhaqooban.specs.Numbers.{entry_number}
use Rattle.fidhaqooban.proofs.outputs.put_entries.Given as goal

abbrev pub invariant-loop-at : goal.invariant-loop-at
invariant-loop-at l = (l.at ≤ l.end) × (length l.out ≡ length l.initial.out) × (l.out ≡ filled_below (λ k. entry_number (get_or l.entries (k / 3) no_entry) (k % 3)) l.at l.initial.out)
