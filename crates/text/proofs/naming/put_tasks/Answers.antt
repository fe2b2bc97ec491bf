-- `text::naming::put_tasks` meets its contract: before each turn the lines of the tasks below the place are put. Assumes nothing.
use Prim.Native.Nat.{◌+◌, ◌*◌}
use mathlib.Core.Path.{◌≡◌, sym}
use native.Mathlib.Omega.{arith}
use Rattle.places.specs.Places.{joined_below}
use Rattle.places.proofs.Turns.{joined-more}
use Rattle.sheet.specs.Layout.{record_at}
use Rattle.text.specs.Named.{name_at, named_line}
use Rattle.text.proofs.Laid.{put-none, put-more, put_as}
use borrow.Author.Rules.{rules}
use Rattle.text.proofs.naming.put_tasks.Goals as goal

pub loop-place-init : goal.loop-place-init
unfolding joined_below
loop-place-init c = (omega arith, omega arith, put-none _ _)

pub loop-place-preserved : goal.loop-place-preserved
unfolding named_line name_at record_at
loop-place-preserved c =
    let at = c.loop-place in
    let put = c.put_row-end.ensures in
    let size : 117 * at.place + 117 ≡ 117 * (at.place + 1) = omega arith in
    (search rules, omega (arith, put.0, at.invariant.1), put_as (sym (joined-more _ at.place)) size (put-more at.invariant.2 at.invariant.1 put.1))
