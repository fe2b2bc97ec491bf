-- `analysis::bounding::within::put_in` meets its contract: before each turn the priorities below have the backup put in, and it reaches each of them. Assumes nothing.
use Prim.Native.Nat.{ℕ, ◌+◌, ◌≤◌, ◌<◌, max}
use mathlib.Core.Path.{◌≡◌}
use lib.ListN.{length, get_or}
use Rattle.analysis.proofs.bounding.within.put_in.Given as goal

abbrev pub invariant-loop-priority : goal.invariant-loop-priority
invariant-loop-priority l =
    (l.priority ≤ 9) × (l.priority ≤ l.fault + 1) × (length l.tops ≡ 9)
    × ((k : ℕ) → k < l.priority → get_or l.tops k 0 ≡ max (get_or l.initial.tops k 0) l.backup) × ((k : ℕ) → l.priority ≤ k → get_or l.tops k 0 ≡ get_or l.initial.tops k 0)
