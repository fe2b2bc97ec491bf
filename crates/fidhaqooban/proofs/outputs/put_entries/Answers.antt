-- `fidhaqooban::outputs::put_entries` meets its contract: before each turn the numbers below the place are put. Assumes nothing.
use mir.Syntax.{w32}
use Prim.Native.Nat.{ℕ, ◌/◌, ◌%◌, ◌*◌}
use mathlib.Core.Path.{◌≡◌, refl, sym, ap, ap₂, ◌∙◌}
use mathlib.Core.List.{List}
use native.Mathlib.Omega.{arith}
use lib.IntN.{ℤ}
use lib.ListN.{get_or, set, length-set}
use mir.Facts.{to_z-of_z}
use Rattle.places.specs.Places.{filled_below}
use Rattle.places.proofs.Turns.{fill_more}
use Rattle.analysis.specs.Common.Entries.{no_entry}
use Rattle.fidhaqooban.specs.Numbers.{entry_number}
use Rattle.fidhaqooban.proofs.outputs.put_entries.Goals as goal

pub loop-at-init : goal.loop-at-init
unfolding filled_below
loop-at-init c = (omega arith, refl, refl)

pub loop-at-preserved : goal.loop-at-preserved
loop-at-preserved c =
    let at = c.loop-at in
    let put : ℕ → ℤ = λ k. entry_number (get_or c.args.entries (k / 3) no_entry) (k % 3) in
    let number = to_z-of_z {w = w32} (record { sfits = c.entry_number.type_inv }) ∙ c.entry_number.ensures in (
      omega arith,
      length-set at.out _ _ ∙ at.invariant.1,
      ap₂ (λ (l : List ℤ) (z : ℤ). set l at.at z) at.invariant.2 number ∙ sym (fill_more put at.at c.args.out.now),
    )

pub returns : goal.returns
returns c =
    let at = c.loop-at in
    let all : at.at ≡ 3 * c.args.count = omega arith in
    at.invariant.2 ∙ ap (λ (n : ℕ). filled_below (λ k. entry_number (get_or c.args.entries (k / 3) no_entry) (k % 3)) n c.args.out.now) all
