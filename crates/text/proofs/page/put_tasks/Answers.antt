-- `text::page::put_tasks` meets its contract: before each turn the lines of the tasks below the place are put. Assumes nothing.
use Prim.Native.Nat.{ℕ, ◌+◌, ◌*◌}
use mathlib.Core.Path.{◌≡◌, refl, sym, ap}
use mathlib.Core.List.{List}
use native.Mathlib.Omega.{arith}
use Rattle.places.specs.Places.{joined_below}
use Rattle.places.proofs.Turns.{joined-more}
use Rattle.sheet.specs.Layout.{record_at}
use Rattle.text.specs.Shown.{column_at, row_text, task_text}
use Rattle.text.proofs.Laid.{put-none, put-more, put_as}
use borrow.Author.Rules.{rules}
use Rattle.text.proofs.page.put_tasks.Goals as goal

pub loop-place-init : goal.loop-place-init
unfolding joined_below
loop-place-init c = (omega arith, omega arith, put-none _ _)

pub loop-place-preserved : goal.loop-place-preserved
unfolding column_at task_text record_at
loop-place-preserved c =
    let at = c.loop-place in
    let put = c.put_row-end.ensures in
    let size : 51 * at.place + 51 ≡ 51 * (at.place + 1) = omega arith in
    let row = put_as (ap (λ (numbers : List ℕ). row_text numbers 6) c.task_numbers.ensures) refl put.1 in
    (search rules, omega (arith, put.0, at.invariant.1), put_as (sym (joined-more _ at.place)) size (put-more at.invariant.2 at.invariant.1 row))
