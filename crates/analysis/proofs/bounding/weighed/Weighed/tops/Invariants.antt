-- `analysis::bounding::weighed::Weighed::tops` meets its contract: before each turn the tops of the places below are known. Assumes nothing.
use Prim.Native.Nat.{ℕ, ◌≤◌, ◌<◌}
use mathlib.Core.Path.{◌≡◌}
use mathlib.Core.Bool.{cond, ◌&&◌}
use mathlib.Core.List.{List}
use lib.Dec.{leb}
use lib.ListN.{length, get_or}
use Rattle.places.specs.Places.{most_below}
use Rattle.analysis.specs.Common.Backups.{everyone}
use Rattle.analysis.proofs.bounding.weighed.Weighed.tops.Given as goal

-- what each record brings to a priority
abbrev pub brought : List ℕ → List ℕ → ℕ → ℕ → ℕ
brought backups choice priority k = cond (everyone k && leb priority (get_or choice k 0)) (get_or backups k 0) 0

abbrev pub invariant-loop-place : goal.invariant-loop-place
invariant-loop-place l = (l.place ≤ l.self.count) × (length l.tops ≡ 9) × ((priority : ℕ) → priority < 9 → get_or l.tops priority 0 ≡ most_below (brought l.self.backups.now l.self.choice.now priority) l.place)
