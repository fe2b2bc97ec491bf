-- `locks::judging::some_wrong_holder` meets its contract: the chain looks at each resource. Assumes nothing.
use Rattle.std.proofs.Common.{rules, tests, arith, sym, ap, ◌∙◌, take_all}
use Rattle.std.proofs.lemmas.Iterator.{YieldsList-from_slice}
use Rattle.std.proofs.lemmas.Iterator.Search.{any_from_yields_List}
use Rattle.places.proofs.Chains.{some-listed}
use Rattle.std.specs.List.{list_any}
use Rattle.locks.specs.Ceilings.{no_resource, resource_at}
use Rattle.locks.specs.Rules.{wrong_holder, some_wrong_holder}
use Rattle.locks.proofs.judging.some_wrong_holder.Goals as goal

pub returns : goal.returns
unfolding resource_at some_wrong_holder
returns c =
    any_from_yields_List wrong_holder _ _ _ c.any.ensures.ran (YieldsList-from_slice _ c.iter.ensures.rest) (λ x b q k. search (rules, tests))
    ∙ ap (list_any wrong_holder) (sym (take_all 8 c.args.resources (omega arith)))
    ∙ some-listed no_resource wrong_holder c.args.resources 8 (omega arith)
