-- `text::page::put_row` meets its contract: before each turn the numbers below the place are put. Assumes nothing.
use Prim.Native.Nat.{ℕ, ◌+◌}
use mathlib.Core.Path.{◌≡◌, sym, ap}
use native.Mathlib.Omega.{arith}
use Rattle.places.specs.Places.{joined_below}
use Rattle.places.proofs.Turns.{joined-more}
use Rattle.report.specs.Words.{newline}
use mathlib.Core.List.{◌++◌}
use Rattle.text.specs.Shown.{column_at, cell_text, row_text}
use Rattle.text.proofs.Aligned.{column-more, columns-most}
use Rattle.text.proofs.Laid.{put-none, put-more, put_as, put-length}
use borrow.Author.Rules.{rules}
use Rattle.text.proofs.page.put_row.Goals as goal

pub loop-place-init : goal.loop-place-init
unfolding column_at joined_below
loop-place-init c = (omega arith, omega arith, put-none _ _)

pub put_number-end-requires : goal.put_number-end-requires
put_number-end-requires c =
    let at = c.loop-place in
    (search rules, omega (arith, put-length at.invariant.2, at.invariant.1, c.requires.1, column-more at.place, columns-most (at.place + 1) (search rules)))

pub loop-place-preserved : goal.loop-place-preserved
unfolding cell_text
loop-place-preserved c =
    let at = c.loop-place in
    let put = c.put_number-end.ensures in
    (search rules, omega (arith, put.0, at.invariant.1, column-more at.place), put_as (sym (joined-more _ at.place)) (sym (column-more at.place)) (put-more at.invariant.2 at.invariant.1 put.1))

pub put-requires : goal.put-requires
put-requires c =
    let at = c.loop-place in
    omega (arith, put-length at.invariant.2, at.invariant.1, c.requires.1, columns-most at.place (omega arith))

pub overflow_add-result : goal.overflow_add-result
overflow_add-result c =
    let at = c.loop-place in
    let room = put-length at.invariant.2 in
    let last = columns-most at.place (omega arith) in
    search rules

pub returns : goal.returns
unfolding row_text
returns c =
    let at = c.loop-place in
    let given = c.args in
    let all : at.place ≡ given.count = omega arith in
    (rw (← all) (omega (arith, at.invariant.1)), put_as (ap (λ (n : ℕ). joined_below (cell_text given.numbers) n ++ newline) all) (ap (λ (n : ℕ). column_at n + 1) all) (put-more at.invariant.2 at.invariant.1 c.put.ensures))
