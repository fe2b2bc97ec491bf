-- `report::composing::takes_name` meets its contract: neither is empty, and both fit. Assumes nothing.
use mathlib.Core.Path.{ap}
use mathlib.Core.Bool.{Bool, not, ◌&&◌}
use lib.Dec.{eqb}
use Rattle.report.specs.Titles.{takes_name}
use Rattle.report.proofs.composing.takes_name.Goals as goal

pub returns : goal.returns
unfolding takes_name
returns c =
    let given = c.args in
    ap (λ (b : Bool). not (eqb given.len 0) && (not (eqb given.size 0) && b)) c.fits.ensures
