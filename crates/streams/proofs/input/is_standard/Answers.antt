-- `==` tells exactly the dash. Assumes nothing.
use Rattle.std.proofs.Common.{◌∙◌, ap, List, ℕ}
use lib.Pointwise.{pointwise}
use lib.Dec.{eqb}
use Rattle.streams.proofs.Dashes.{dash-told}
use Rattle.streams.proofs.input.is_standard.Goals as goal

pub returns : goal.returns
returns c = c.eq.ensures ∙ ap (λ (dash : List ℕ). pointwise eqb c.args.name.now dash) c.as_slice.ensures ∙ dash-told c.args.name.now
