-- `analysis::common::load::most` meets its contract: before each turn the largest of what is given below is known. Assumes nothing.
use Prim.Native.Nat.{ℕ, ◌≤◌, ◌<◌}
use mathlib.Core.Path.{◌≡◌}
use Rattle.places.specs.Places.{most_below}
use Rattle.analysis.proofs.common.load.most.Given as goal

abbrev pub invariant-loop-k : goal.invariant-loop-k
invariant-loop-k g l = (l.k ≤ l.until) × ((given : ℕ → ℕ) → ((k r : ℕ) → k < l.until → goal.F-post g l.each k r → r ≡ given k) → l.most ≡ most_below given l.k)
