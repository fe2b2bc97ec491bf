-- `replay::logs::going::go_over` meets its contract: before each turn the bytes to come, from what is held so far, come to what all of them do. Assumes nothing.
use Rattle.std.proofs.Common.{◌≡◌, ◌-◌, ◌%◌, ◌≤◌, length, drop}
use Rattle.replay.specs.Ticks.Columns.{cells_shown}
use Rattle.replay.specs.Logs.Pieces.{holding, followed}
use Rattle.replay.specs.Logs.Held.{held_in, KeepsRunner}
use Rattle.replay.proofs.logs.going.go_over.Given as goal

abbrev pub invariant-loop-headway : goal.invariant-loop-headway
invariant-loop-headway l =
    (l.at ≤ length l.bytes)
    × (length (drop l.at l.bytes) % l.width ≡ 0)
    × (followed (held_in l.following (cells_shown l.columns) l.headway) (drop l.at l.bytes) ≡ followed (holding l.following 0 0 0) l.bytes)
    × KeepsRunner l.following (cells_shown l.columns) l.headway

abbrev pub decreases-loop-headway : goal.decreases-loop-headway
decreases-loop-headway l = length l.bytes - l.at
