-- `rows::next` meets its contract: a search from a place in the list ends past it. Assumes nothing.
use Rattle.std.proofs.Common.{ℕ, ◌<◌, sym, subst}
use Rattle.rows.proofs.Places.{after-past}
use Rattle.rows.proofs.next.Goals as goal

pub returns : goal.returns
returns c =
    let given = c.args in
    record { exact = c.after.ensures; past = λ h. subst (λ (n : ℕ). given.start < n) (sym c.after.ensures) (after-past given.list.now given.start 10 h) }
