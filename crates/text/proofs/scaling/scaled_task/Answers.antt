-- `text::scaling::scaled_task` meets its contract. Assumes nothing.
use Rattle.text.specs.Scaling.{scaled_task, number_at}
use Rattle.text.proofs.scaling.scaled_task.Goals as goal

pub returns : goal.returns
unfolding scaled_task number_at
returns c = simp (c.narrow.ensures, c.up.ensures, c.narrow-2.ensures, c.up-2.ensures, c.narrow-3.ensures, c.narrow-4.ensures, c.four_bits.ensures, c.four_bits-2.ensures)
