-- `fidhaqooban::locking::resources` meets its contract: before each turn the resources below are filled. Assumes nothing.
use mathlib.Core.Path.{ap, ◌∙◌}
use lib.ListN.{replicate}
use Rattle.places.specs.Places.{filled_below}
use Rattle.places.proofs.Turns.{fill_more, last_turn}
use Rattle.fidhaqooban.specs.Locking.{given_resource, given_resources}
use Rattle.fidhaqooban.proofs.Locked.{eight-filled}
use borrow.Author.Rules.{rules}
use Rattle.fidhaqooban.proofs.locking.resources.Goals as goal

pub loop-number-init : goal.loop-number-init
unfolding filled_below
loop-number-init c = (search rules, ap (replicate 8) c.resource-resources.ensures)

pub loop-number-preserved : goal.loop-number-preserved
loop-number-preserved c =
    let given = c.args in
    (search rules, cc (fill_more (given_resource given.numbers.now) c.loop-number.number (replicate 8 (given_resource given.numbers.now 0))))

pub returns : goal.returns
unfolding given_resources
returns c =
    let each = given_resource c.args.numbers.now in
    last_turn (λ n. filled_below each n (replicate 8 (each 0))) c.loop-number.invariant.1 c.loop-number.invariant.0 c.loop-number-test.false ∙ eight-filled each (each 0) _
