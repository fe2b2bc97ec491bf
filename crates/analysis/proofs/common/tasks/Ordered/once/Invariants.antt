-- `analysis::common::tasks::Ordered::once` meets its contract: before each turn the costs from the first rank on and below are summed, and each is what its task runs in a length of 1. Assumes nothing.
use Prim.Native.Nat.{ℕ, ◌+◌, ◌-◌, ◌*◌, ◌≤◌}
use mathlib.Core.Path.{◌≡◌}
use mathlib.Core.List.{List}
use lib.ListN.{get_or}
use Rattle.places.specs.Places.{sum_below}
use Rattle.analysis.specs.Common.Rounding.{up}
use Rattle.analysis.proofs.common.tasks.Ordered.once.Given as goal

-- what each rank brings
abbrev pub run : List ℕ → ℕ → ℕ
run columns k = up 1 (get_or columns (8 + k) 0) * get_or columns k 0

abbrev pub invariant-loop-rank : goal.invariant-loop-rank
invariant-loop-rank l =
    (l.from ≤ l.rank) × (l.rank - l.from ≤ l.until - l.from) × (l.total ≡ sum_below (λ k. run l.self.columns.now (l.from + k)) (l.rank - l.from)) × (l.total ≤ (l.rank - l.from) * 65535)
