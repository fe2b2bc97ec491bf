-- `choices::lister::most` meets its contract: before each turn the product is that of the records so far. Assumes nothing.
use Prim.Native.Nat.{ℕ, suc, ◌+◌, ◌*◌}
use mathlib.Core.Path.{◌≡◌, sym, ap, ap₂, ◌∙◌}
use native.Mathlib.Nat.{mul_comm}
use native.Mathlib.Omega.{arith}
use borrow.Author.Rules.{rules}
use Rattle.choices.specs.Stepping.{factorial}
use Rattle.choices.proofs.Counted.{factorial-few}
use Rattle.choices.proofs.lister.most.Goals as goal

-- the product so far times the next record
next-factorial : (choices records : ℕ) → choices ≡ factorial records → choices * (records + 1) ≡ factorial (records + 1)
unfolding factorial
next-factorial choices records e =
    let next : suc records ≡ records + 1 = omega arith in
    mul_comm choices (records + 1) ∙ ap₂ ◌*◌ (sym next) e ∙ ap factorial next

pub loop-records-init : goal.loop-records-init
unfolding factorial
loop-records-init c = search rules

pub overflow_mul-choices : goal.overflow_mul-choices
overflow_mul-choices c =
    let at = c.loop-records in
    omega (arith, next-factorial at.choices at.records at.invariant.1, factorial-few (at.records + 1) (omega (arith, c.requires)))

pub loop-records-preserved : goal.loop-records-preserved
loop-records-preserved c =
    let at = c.loop-records in
    (omega arith, next-factorial at.choices at.records at.invariant.1)

pub returns : goal.returns
returns c =
    let at = c.loop-records in
    let end : at.records ≡ c.args.count = omega arith in
    at.invariant.1 ∙ ap factorial end
