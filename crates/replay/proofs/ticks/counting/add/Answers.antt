-- `replay::ticks::counting::add` meets its contract. Assumes nothing.
use Rattle.replay.specs.Ticks.Counts.{added}
use Rattle.replay.proofs.ticks.counting.add.Goals as goal

pub returns : goal.returns
unfolding added
returns c =
    λ i. record {
      first_attempts = c.wrapping_add_u64.ensures.value i;
      backups = c.wrapping_add_u64-2.ensures.value i;
      idle = c.wrapping_add_u64-3.ensures.value i;
      released = c.wrapping_add_u64-4.ensures.value i;
      finished = c.wrapping_add_u64-5.ensures.value i;
      missed = c.wrapping_add_u64-6.ensures.value i;
    }
