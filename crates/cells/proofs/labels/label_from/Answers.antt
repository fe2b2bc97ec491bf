-- `cells::labels::label_from` meets its contract: the name that bytes spell is a fold over them. Assumes nothing.
use Rattle.std.proofs.Common.{arith}
use Rattle.std.proofs.lemmas.Grind.{common_steps}
use Rattle.cells.proofs.Turns.{label_folds}
use Rattle.cells.proofs.labels.label_from.Goals as goal

pub returns : goal.returns
returns c = grind (arith, common_steps, label_folds, c.fold.ensures.runs)
