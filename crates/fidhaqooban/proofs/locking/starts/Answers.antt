-- `fidhaqooban::locking::starts` meets its contract: before each turn the jobs below are filled. Assumes nothing.
use mathlib.Core.Path.{ap, ◌∙◌}
use lib.ListN.{replicate}
use mathlib.Core.List.{List}
use Rattle.places.specs.Places.{filled_below}
use Rattle.places.proofs.Turns.{fill_more, last_turn}
use Rattle.locks.specs.declared.Job.{Job}
use Rattle.fidhaqooban.specs.Locking.{given_job, given_starts}
use Rattle.fidhaqooban.proofs.Locked.{eight-filled}
use borrow.Author.Rules.{rules}
use Rattle.fidhaqooban.proofs.locking.starts.Goals as goal

pub loop-place-init : goal.loop-place-init
unfolding filled_below
loop-place-init c = (search rules, ap (replicate 8) c.job-jobs.ensures)

pub loop-place-preserved : goal.loop-place-preserved
loop-place-preserved c =
    let given = c.args in
    (search rules, cc (fill_more (given_job given.numbers.now given.uses.now) c.loop-place.place (replicate 8 (given_job given.numbers.now given.uses.now 0))))

pub returns : goal.returns
unfolding given_starts
returns c =
    let given = c.args in
    let each = given_job given.numbers.now given.uses.now in
    ap (λ (jobs : List Job). record { period = given.period; count = given.count; jobs = jobs })
    (last_turn (λ n. filled_below each n (replicate 8 (each 0))) c.loop-place.invariant.1 c.loop-place.invariant.0 c.loop-place-test.false ∙ eight-filled each (each 0) _)
