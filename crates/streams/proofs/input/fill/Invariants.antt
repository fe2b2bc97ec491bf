-- Each turn leaves less of the buffer to fill. Assumes nothing.
use Rattle.std.proofs.Common.{◌≡◌, ◌-◌, ◌^◌, ◌≤◌, ◌<◌, length}
use Rattle.streams.proofs.input.fill.Given as goal

abbrev pub invariant-loop-held : goal.invariant-loop-held
invariant-loop-held l = (length l.buffer ≡ length l.initial.buffer) × (l.held ≤ length l.buffer) × (length l.buffer < 2 ^ 64)

abbrev pub decreases-loop-held : goal.decreases-loop-held
decreases-loop-held l = length l.buffer - l.held
