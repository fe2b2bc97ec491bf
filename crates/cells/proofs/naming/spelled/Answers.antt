-- `cells::naming::spelled` meets its contract: the name that bytes spell is a fold over them. Assumes nothing.
use Rattle.std.proofs.Common.{rules, ◌∙◌, sym}
use Rattle.std.proofs.lemmas.Iterator.{YieldsList-from_slice}
use Rattle.std.proofs.lemmas.Iterator.Consumers.{fold_from_yields_List}
use Rattle.cells.specs.Names.{misspelt, spelled_after}
use Rattle.cells.proofs.Turns.{spelling_folds}
use Rattle.cells.proofs.naming.spelled.Goals as goal

pub returns : goal.returns
unfolding misspelt
returns c =
    rw (← c.misspelt.ensures)
    (fold_from_yields_List _ (spelled_after c.args.quoted) _ _ c.fold.ensures.ran (YieldsList-from_slice c.args.bytes.now cc) (λ a x b q k. search rules) ∙ sym (spelling_folds c.args.quoted c.misspelt.result c.args.bytes.now))
