-- `text::read` meets its contract. Assumes nothing.
use mathlib.Core.Path.{ap, ◌∙◌}
use Rattle.text.specs.declared.Scan.{Scan}
use Rattle.text.specs.Texts.{scanned}
use Rattle.text.specs.Answers.{understood, read_answer}
use Rattle.text.proofs.read.Goals as goal

pub returns : goal.returns
unfolding read_answer
returns c = c.finish.ensures ∙ ap understood (c.take.ensures ∙ ap (λ (s : Scan). scanned s c.args.text.now) c.start.ensures)
