-- Where a climb starts, and when there is a length at all. Assumes nothing.
use Prim.Native.Nat.{ℕ, ◌≤◌, ◌<◌}
use mathlib.Core.Path.{◌≡◌}
use native.Mathlib.Omega.{arith}
use Rattle.analysis.specs.Common.Tasks.{Tasks}
use Rattle.analysis.specs.Common.Search.{least_within}
use Rattle.analysis.specs.Common.Demand.{Demand, demand_of}
use Rattle.analysis.proofs.Laws.Common.Climbing.{Least, least-says, least-none, least-later}
use Rattle.analysis.proofs.Laws.Common.Taken.{asked-missed}

module _ (s : Tasks) (d : Demand) (limit : ℕ) {start : ℕ} (asks : start ≡ demand_of s d 1) where
  -- no length is shorter than what is asked of a length of 1
  pub start-least : 1 ≤ start → least_within (demand_of s d) start limit ≡ least_within (demand_of s d) 1 limit
  start-least some = least-later (demand_of s d) 1 start limit some (asked-missed s d 1 asks)

  -- so there is none where that is past the limit
  pub start-past : limit < start → least_within (demand_of s d) 1 limit ≡ 0
  start-past past = least-none (demand_of s d) 1 limit start past (asked-missed s d 1 asks)

-- there is one where the limit meets its demand
pub limit-met : (asked : ℕ → ℕ) (limit : ℕ) → 1 ≤ limit → asked limit ≤ limit → least_within asked 1 limit ≡ 0 → ⊥
limit-met asked limit some met = go (least-says asked 1 limit)
  where
    go : {r : ℕ} → Least asked 1 limit r → r ≡ 0 → ⊥
    go (Least.none short) none = absurd (omega (arith, short limit some (omega arith)))
    go (Least.least {L = L} low high fits short) none = absurd (omega arith)
