-- `choices::odometer::is_allowed` meets its contract. Assumes nothing.
use Rattle.std.proofs.Common.{ℕ, not, ◌||◌, ap, ◌∙◌, ltb}
use Rattle.choices.proofs.Allowed.{allowed-told}
use Rattle.choices.proofs.odometer.is_allowed.Goals as goal

pub returns : goal.returns
returns c = ap (λ (first : ℕ). not (ltb c.args.entry first || ltb c.args.priority c.args.entry)) c.first_fault.ensures ∙ allowed-told c.args.priority c.args.entry
