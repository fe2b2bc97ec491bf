-- `fidhaqooban::answers::choice_of` meets its contract: before each turn the number is that of the entries below the place. Assumes nothing.
use Prim.Native.Nat.{ℕ, ◌+◌, ◌*◌}
use mathlib.Core.Path.{◌≡◌, sym, ap, ◌∙◌}
use native.Mathlib.Omega.{arith}
use lib.ListN.{length, get_or, take, replicate}
use lib.Seq.{take_all}
use Rattle.sheet.specs.Packing.{packed}
use Rattle.choices.specs.Stepping.{IsSmall}
use Rattle.fidhaqooban.specs.Numbers.{choice_of}
use Rattle.fidhaqooban.proofs.Fields.{packed_more, more-fits}
use borrow.Author.Rules.{rules}
use Rattle.fidhaqooban.proofs.answers.choice_of.Goals as goal

pub overflow_mul-choice : goal.overflow_mul-choice
unfolding IsSmall
overflow_mul-choice c = omega (arith, more-fits 4 _ 8 _ _ c.requires c.loop-place-test.true (search rules) c.loop-place.invariant.1)

pub overflow_add-choice : goal.overflow_add-choice
unfolding IsSmall
overflow_add-choice c = omega (arith, more-fits 4 _ 8 _ _ c.requires c.loop-place-test.true (search rules) c.loop-place.invariant.1)

pub loop-place-preserved : goal.loop-place-preserved
unfolding IsSmall
loop-place-preserved c =
    let at = c.loop-place in
    let entries = c.args.entries in
    let eight : length entries ≡ 8 = search rules in
    (search rules, ap (λ (x : ℕ). x * 16 + get_or entries at.place 0) at.invariant.1 ∙ sym (packed_more 4 at.place entries c.requires (omega arith)))

pub returns : goal.returns
unfolding choice_of
returns c =
    let at = c.loop-place in
    let entries = c.args.entries in
    let eight : length entries ≡ 8 = search rules in
    let all : at.place ≡ 8 = omega arith in
    at.invariant.1 ∙ ap (λ (n : ℕ). packed (replicate n 4) (take n entries)) all ∙ ap (packed (replicate 8 4)) (take_all 8 entries (omega arith))
