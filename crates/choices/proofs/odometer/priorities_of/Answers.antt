-- `choices::odometer::priorities_of` meets its contract: before each turn the places below are filled. Assumes nothing.
use Prim.Native.Nat.{ℕ}
use mathlib.Core.Path.{◌≡◌, sym, ap, ◌∙◌}
use mathlib.Core.List.{List}
use native.Mathlib.Omega.{arith}
use lib.ListN.{set, replicate}
use Rattle.places.specs.Places.{filled_below}
use Rattle.places.proofs.Turns.{fill_more}
use Rattle.sheet.specs.Layout.{record_at}
use borrow.Author.Rules.{rules}
use Rattle.analysis.specs.Common.Columns.{priorities_of}
use Rattle.choices.proofs.odometer.priorities_of.Invariants.{priority_of}
use Rattle.choices.proofs.odometer.priorities_of.Goals as goal

pub loop-place-init : goal.loop-place-init
unfolding filled_below
loop-place-init c = search rules

pub loop-place-preserved : goal.loop-place-preserved
unfolding record_at
loop-place-preserved c =
    let at = c.loop-place in
    let records = c.args.table.records in
    (search rules, ap (λ (l : List ℕ). set l at.place (priority_of records at.place)) at.invariant.1 ∙ sym (fill_more (priority_of records) at.place (replicate 8 0)))

pub returns : goal.returns
unfolding priorities_of
returns c small =
    let table = c.args.table in
    let all : c.loop-place.place ≡ table.count = omega (arith, c.min-count.ensures, small) in
    c.loop-place.invariant.1 ∙ ap (λ (n : ℕ). filled_below (priority_of table.records) n (replicate 8 0)) all
