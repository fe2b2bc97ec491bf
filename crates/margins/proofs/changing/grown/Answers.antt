-- `margins::changing::grown` meets its contract. Assumes nothing.
use Prim.Native.Nat.{◌≤◌}
use native.Mathlib.Nat.{mul-le-mul}
use native.Mathlib.Omega.{arith}
use borrow.Author.Tests.{le-leb, lt-leb}
use Rattle.analysis.specs.Common.Rounding.{up}
use Rattle.margins.specs.Changes.{grown}
use Rattle.margins.specs.Fitted.{fitted}
use Rattle.margins.proofs.changing.grown.Goals as goal

pub overflow_mul-wanted : goal.overflow_mul-wanted
overflow_mul-wanted c =
    let a : c.args.figure ≤ 65535 = omega arith in
    let b : c.args.factor ≤ 4294967295 = omega arith in
    omega (arith, mul-le-mul a b)

pub overflow_add-wanted : goal.overflow_add-wanted
overflow_add-wanted c =
    let a : c.args.figure ≤ 65535 = omega arith in
    let b : c.args.factor ≤ 4294967295 = omega arith in
    omega (arith, mul-le-mul a b)

pub returns-then-wanted-deadline : goal.returns-then-wanted-deadline
unfolding fitted grown up
returns-then-wanted-deadline c = simp (le-leb _ _ c.if-wanted-deadline.true)

pub returns : goal.returns
unfolding fitted grown up
returns c = simp (lt-leb _ _ c.if-wanted-deadline.false)
