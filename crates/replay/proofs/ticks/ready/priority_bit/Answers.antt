-- `replay::ticks::ready::priority_bit` meets its contract: the set of one priority, or none. Assumes nothing.
use Rattle.std.proofs.Common.{◌≡◌, ◌+◌, ◌-◌, ◌^◌, sym, ◌∙◌, one-mul, arith, shl_exact, eq-eqb, ne_eqb}
use Rattle.replay.proofs.OfTicks.Binary.{bits_none, bits-single}
use Rattle.replay.proofs.ticks.ready.priority_bit.Goals as goal

pub returns-then-priority-le8 : goal.returns-then-priority-le8
returns-then-priority-le8 c =
    let priority = c.args.priority in
    let same : priority ≡ priority - 1 + 1 = omega (arith, c.if-priority-ne0.true) in
    shl_exact 1 (priority - 1) 8 (omega arith) (omega arith) ∙ one-mul (2 ^ (priority - 1))
    ∙ sym (bits-single _ (priority - 1) 8 (omega arith) (simp (c.if-is_there.true, eq-eqb priority (priority - 1 + 1) same)) (λ k below other. simp (c.if-is_there.true, ne_eqb priority (k + 1) (λ e. other (omega arith)))))

pub returns-else-priority-le8 : goal.returns-else-priority-le8
returns-else-priority-le8 c =
    let priority = c.args.priority in
    sym (bits_none _ 8 (λ k below. simp (c.if-is_there.true, ne_eqb priority (k + 1) (λ e. omega arith))))

pub returns-else-priority-ne0 : goal.returns-else-priority-ne0
returns-else-priority-ne0 c =
    let priority = c.args.priority in
    sym (bits_none _ 8 (λ k below. simp (c.if-is_there.true, ne_eqb priority (k + 1) (λ e. omega arith))))

pub returns-else-is_there : goal.returns-else-is_there
returns-else-is_there c =
    sym (bits_none _ 8 (λ k below. simp c.if-is_there.false))
