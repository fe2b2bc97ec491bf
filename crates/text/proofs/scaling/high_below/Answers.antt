-- `text::scaling::high_below` meets its contract: a test of the first tasks. Assumes nothing.
use Rattle.std.proofs.Common.{rules, tests, ◌∙◌, take}
use Rattle.std.proofs.lemmas.Iterator.{YieldsList-from_slice}
use Rattle.std.proofs.lemmas.Iterator.Search.{any_from_yields_List}
use Rattle.text.specs.Scaling.{is_high}
use Rattle.text.proofs.Turned.{high_any}
use Rattle.text.proofs.scaling.high_below.Goals as goal

pub returns : goal.returns
returns c =
    any_from_yields_List is_high _ _ _ c.any.ensures.ran (YieldsList-from_slice (take c.args.count c.args.tasks) cc) (λ x b q k. search (rules, tests)) ∙ high_any c.args.tasks c.args.count (search rules)
