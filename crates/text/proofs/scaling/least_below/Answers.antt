-- `text::scaling::least_below` meets its contract: a fold over the first tasks. Assumes nothing.
use Rattle.std.proofs.Common.{rules, arith, max, ◌∙◌, take}
use Rattle.std.proofs.lemmas.Iterator.{YieldsList-from_slice}
use Rattle.std.proofs.lemmas.Iterator.Consumers.{fold_from_yields_List}
use Rattle.text.specs.Scaling.{least_of}
use Rattle.text.proofs.Turned.{least_fold}
use Rattle.text.proofs.scaling.least_below.Goals as goal

pub returns : goal.returns
returns c =
    fold_from_yields_List _ (λ least task. max least (least_of task)) _ _ c.fold.ensures.ran (YieldsList-from_slice (take c.args.count c.args.tasks) cc) (λ a x b q k. search (rules, arith)) ∙ least_fold c.args.first c.args.tasks c.args.count (search rules)
