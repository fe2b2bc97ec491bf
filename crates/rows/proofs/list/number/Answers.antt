-- `rows::list::number` meets its contract: before each turn the rest of the digits is still to be read. Assumes nothing.
use Rattle.std.proofs.Common.{ℕ, ◌+◌, ◌≡◌, sym, ap, ◌∙◌}
use native.Mathlib.Omega.{arith}
use Rattle.rows.specs.Lists.{ends}
use Rattle.rows.proofs.Digits.{read_from, read-start, read-end, read-stop, read-on}
use Rattle.rows.proofs.list.number.Goals as goal

pub loop-end-init : goal.loop-end-init
loop-end-init c = (omega arith, read-start _ _)

pub returns-then-digit : goal.returns-then-digit
unfolding ends
returns-then-digit c =
    sym (read-stop _ _ _ c.loop-end-test.true c.if-digit.true) ∙ c.loop-end.invariant.1

pub loop-end-preserved : goal.loop-end-preserved
unfolding ends
loop-end-preserved c =
    let at = c.loop-end in
    (omega arith, ap (λ (n : ℕ). read_from c.args.list.now n (at.end + 1)) c.grow-value.ensures ∙ read-on _ _ _ c.loop-end-test.true c.if-digit.false ∙ at.invariant.1)

pub returns : goal.returns
returns c =
    let reached : c.max.result ≡ c.loop-end.end = omega arith in
    ap (λ (end : ℕ). record { value = c.loop-end.value; end = end }) reached ∙ sym (read-end _ _ _ c.loop-end-test.false) ∙ c.loop-end.invariant.1
