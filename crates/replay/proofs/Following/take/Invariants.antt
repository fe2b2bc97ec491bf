-- `replay::Following::take` meets its contract: before each turn the bytes to come, from what is kept so far, come to what all of them do. Assumes nothing.
use Rattle.std.proofs.Common.{◌≡◌, ◌-◌, ◌≤◌, length, drop}
use Rattle.replay.specs.Ticks.Machines.{IsTied}
use Rattle.replay.specs.Logs.Pieces.{followed}
use Rattle.replay.proofs.Following.take.Given as goal

abbrev pub invariant-loop-at : goal.invariant-loop-at
invariant-loop-at l = (l.at ≤ length l.part) × (followed l.following (drop l.at l.part) ≡ followed l.initial.following l.part) × IsTied l.following.machine

abbrev pub decreases-loop-at : goal.decreases-loop-at
decreases-loop-at l = length l.part - l.at
