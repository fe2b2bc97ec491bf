-- `fidhaqooban::outputs::put_changes` meets its contract: before each turn the changes below the place are put. Assumes nothing.
use Prim.Native.Nat.{ℕ, ◌+◌, ◌*◌}
use mathlib.Core.Path.{◌≡◌, refl, sym, ap, ◌∙◌}
use mathlib.Core.List.{List}
use native.Mathlib.Omega.{arith}
use lib.ListN.{length, get_or, set, length-set}
use lib.Seq.{sets}
use Rattle.places.specs.Places.{joined_below}
use Rattle.places.proofs.Turns.{joined-more}
use Rattle.places.proofs.Joined.{length-joined}
use Rattle.sheet.proofs.Stores.{sets-after}
use Rattle.mend.specs.declared.Change.{Change}
use Rattle.mend.specs.Changes.{no_change}
use Rattle.fidhaqooban.specs.Numbers.{change_numbers, changes_from}
use borrow.Author.Rules.{rules}
use Rattle.fidhaqooban.proofs.outputs.put_changes.Goals as goal

four : (change : Change) → length (change_numbers change) ≡ 4
unfolding change_numbers
four change = refl

pub loop-place-init : goal.loop-place-init
unfolding joined_below
loop-place-init c = search rules

pub put_change-requires : goal.put_change-requires
put_change-requires c =
    let same = c.loop-place.invariant.1 ∙ length-set c.args.out.now 0 c.args.count in
    omega (arith, same)

pub loop-place-preserved : goal.loop-place-preserved
loop-place-preserved c =
    let at = c.loop-place in
    let begun : List ℕ = set c.args.out.now 0 c.args.count in
    let put : ℕ → List ℕ = λ k. change_numbers (get_or c.args.list k no_change) in
    let so_far : 1 + 4 * at.place ≡ 1 + length (joined_below put at.place) = ap (λ (n : ℕ). 1 + n) (sym (length-joined put 4 (λ k. four (get_or c.args.list k no_change)) at.place)) in (
      search rules,
      c.put_change.auto.out ∙ at.invariant.1,
      c.put_change.ensures ∙ ap (λ (l : List ℕ). sets l (1 + 4 * at.place) (put at.place)) at.invariant.2
          ∙ sets-after begun (joined_below put at.place) (put at.place) 1 (1 + 4 * at.place) so_far ∙ ap (sets begun 1) (sym (joined-more put at.place)),
    )

pub returns : goal.returns
unfolding changes_from
returns c =
    let all : c.loop-place.place ≡ c.args.count = omega arith in
    c.loop-place.invariant.2 ∙ ap (λ (n : ℕ). sets (set c.args.out.now 0 c.args.count) 1 (joined_below (λ k. change_numbers (get_or c.args.list k no_change)) n)) all
