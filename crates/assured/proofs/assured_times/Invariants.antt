-- `assured::assured_times` meets its contract: before each turn the entries below are those of the assessment without their slacks. Assumes nothing.
use Prim.Native.Nat.{◌-◌, ◌≤◌}
use mathlib.Core.Path.{◌≡◌}
use lib.ListN.{get_or, replicate}
use Rattle.places.specs.Places.{filled_below}
use Rattle.analysis.specs.Common.Entries.{no_entry as no_whole}
use Rattle.assured.specs.Answers.{no_entry, without_slack}
use Rattle.assured.proofs.assured_times.Given as goal

abbrev pub invariant-loop-place : goal.invariant-loop-place
invariant-loop-place l = (l.place ≤ 8) × (l.entries ≡ filled_below (λ k. without_slack (get_or l.assessment.entries k no_whole)) l.place (replicate 8 no_entry))
