-- `locks::grant` meets its contract. Assumes nothing.
use mathlib.Core.Path.{sym, ap, ◌∙◌}
use mathlib.Core.Bool.{false}
use Prim.Native.Nat.{ℕ}
use lib.IntN.{pos}
use Rattle.locks.proofs.Answered.{answer-refused}
use Rattle.locks.proofs.grant.Goals as goal

pub returns-then-refusal-ne0 : goal.returns-then-refusal-ne0
returns-then-refusal-ne0 c =
    let same = c.judge-refusal.ensures in
    ap (λ (r : ℕ). record { refusal = r; granted = false; margin = pos 0 }) same ∙ sym (answer-refused _ _ _ (λ e. c.if-refusal-ne0.true (same ∙ e)))
