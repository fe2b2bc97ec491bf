-- `analysis::common::choice::own_choice` meets its contract: before each turn the places below are filled. Assumes nothing.
use Prim.Native.Nat.{ℕ}
use mathlib.Core.Path.{◌≡◌, sym, ap, ap₂, ◌∙◌}
use mathlib.Core.List.{List}
use native.Mathlib.Omega.{arith}
use lib.ListN.{set, replicate}
use Rattle.places.specs.Places.{filled_below}
use Rattle.places.proofs.Turns.{fill_more}
use Rattle.analysis.specs.Common.Tasks.{fault_at, own_choice}
use borrow.Author.Rules.{rules}
use Rattle.analysis.proofs.common.choice.own_choice.Goals as goal

pub loop-place-init : goal.loop-place-init
unfolding filled_below
loop-place-init c = search rules

pub loop-place-preserved : goal.loop-place-preserved
loop-place-preserved c =
    let at = c.loop-place in
    let table = c.args.table in (
      search rules,
      ap₂ (λ (l : List ℕ) (q : ℕ). set l at.place q) at.invariant.1 c.fault_at.ensures ∙ sym (fill_more (fault_at table) at.place (replicate 8 0)),
    )

pub returns : goal.returns
unfolding own_choice
returns c =
    let all : c.loop-place.place ≡ 8 = omega arith in
    c.loop-place.invariant.1 ∙ ap (λ (n : ℕ). filled_below (fault_at c.args.table) n (replicate 8 0)) all
