-- `report::choice_line` meets its contract: before each turn the entries below the place are put, four bytes or fewer for each. Assumes nothing.
use Prim.Native.Nat.{◌+◌, ◌*◌, ◌≤◌}
use mathlib.Core.Path.{◌≡◌}
use mathlib.Core.List.{◌++◌}
use lib.ListN.{length}
use Rattle.places.specs.Places.{joined_below}
use Rattle.report.specs.Words.{pass_word}
use Rattle.report.specs.Texts.{line_of, entry_text}
use Rattle.report.proofs.choice_line.Given as goal

abbrev pub invariant-loop-entry : goal.invariant-loop-entry
invariant-loop-entry l = (l.entry-index ≤ length l.entries) × (l.line.len ≤ 4 + 4 * l.entry-index) × (l.line ≡ line_of (pass_word ++ joined_below (entry_text l.fn.choice) l.entry-index))
