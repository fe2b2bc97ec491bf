-- `analysis::common::load::up` meets its contract. Assumes nothing.
use Prim.Native.Nat.{◌+◌, ◌/◌}
use mathlib.Core.Path.{◌≡◌, sym, ◌∙◌}
use native.Mathlib.Omega.{arith}
use native.Mathlib.Nat.{div-le_self}
use borrow.Author.Tests.{eq-eqb, ne_eqb}
use Rattle.analysis.specs.Common.Rounding.{up}
use Rattle.analysis.proofs.Laws.Common.Rounding.{up-taught, up_small}
use borrow.Author.Rules.{rules}
use Rattle.analysis.proofs.common.load.up.Goals as goal

pub returns-then-a-b-eq0 : goal.returns-then-a-b-eq0
returns-then-a-b-eq0 c =
    let a = c.args.a in
    let b = c.args.b in
    let small = div-le_self a b in
    record {
      same = sym (up-taught a b c.requires.some ∙ simp (eq-eqb _ 0 c.if-a-b-eq0.true));
      small = omega arith;
    }

pub overflow_add-result : goal.overflow_add-result
overflow_add-result c =
    let small = div-le_self c.args.a c.args.b in
    search rules

pub returns : goal.returns
returns c =
    let a = c.args.a in
    let b = c.args.b in
    let same : up a b ≡ a / b + 1 = up-taught a b c.requires.some ∙ simp (ne_eqb _ 0 c.if-a-b-eq0.false) in
    let small = up_small a b c.requires.some in
    record {
      same = sym same;
      small = omega (arith, same);
    }
