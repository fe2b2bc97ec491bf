-- `release::deciding::some_grows` meets its contract: the chain looks at each place below the count. Assumes nothing.
use Rattle.std.proofs.Common.{rules, tests, arith, refl, get_or, ◌&&◌, ◌∙◌}
use Rattle.std.proofs.lemmas.Iterator.{YieldsList-from_range}
use Rattle.std.proofs.lemmas.Iterator.Search.{any_from_yields_List}
use Rattle.places.proofs.Chains.{some-ranged}
use Rattle.analysis.specs.Common.Entries.{no_entry}
use Rattle.release.specs.Rules.{is_protected, grows}
use Rattle.release.proofs.deciding.some_grows.Goals as goal

pub returns : goal.returns
returns c =
    any_from_yields_List (λ place. is_protected c.args.protected place && grows (get_or c.args.old place no_entry).outcome (get_or c.args.new place no_entry).outcome) _ _ _ c.any.ensures.ran (YieldsList-from_range 0 c.args.count c.args.count refl (omega arith)) (λ x b q k. search (rules, tests))
    ∙ some-ranged (λ place. is_protected c.args.protected place && grows (get_or c.args.old place no_entry).outcome (get_or c.args.new place no_entry).outcome) c.args.count
