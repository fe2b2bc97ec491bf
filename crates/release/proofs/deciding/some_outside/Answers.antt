-- `release::deciding::some_outside` meets its contract: the chain looks at each place. Assumes nothing.
use Rattle.std.proofs.Common.{rules, tests, refl, ◌&&◌, leb, ◌∙◌}
use Rattle.std.proofs.lemmas.Iterator.{YieldsList-from_range}
use Rattle.std.proofs.lemmas.Iterator.Search.{any_from_yields_List}
use Rattle.places.proofs.Chains.{some-ranged}
use Rattle.release.specs.Rules.{is_protected, some_outside}
use Rattle.release.proofs.deciding.some_outside.Goals as goal

pub returns : goal.returns
unfolding some_outside
returns c =
    any_from_yields_List (λ place. leb c.args.count place && is_protected c.args.protected place) _ _ _ c.any.ensures.ran (YieldsList-from_range 0 8 8 refl refl) (λ x b q k. search (rules, tests))
    ∙ some-ranged (λ place. leb c.args.count place && is_protected c.args.protected place) 8
