-- `lines::answering::figures_of` meets its contract. Assumes nothing.
use Rattle.lines.specs.Answers.{figures_of, setting_at}
use Rattle.lines.proofs.answering.figures_of.Goals as goal

pub returns : goal.returns
unfolding figures_of setting_at
returns c = simp c.filled_in.ensures
