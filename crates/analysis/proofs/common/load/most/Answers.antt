-- `analysis::common::load::most` meets its contract: before each turn the largest of what is given below is known. Assumes nothing.
use Prim.Native.Nat.{max}
use mathlib.Core.Path.{◌≡◌, refl, sym, ap, ap₂, ◌∙◌}
use native.Mathlib.Omega.{arith}
use Rattle.places.specs.Places.{most_below}
use Rattle.places.proofs.Turns.{most-more}
use Rattle.analysis.proofs.common.load.most.Goals as goal

pub loop-k-init : goal.loop-k-init
unfolding most_below
loop-k-init g c = (omega arith, λ given gives. refl)

pub loop-k-preserved : goal.loop-k-preserved
loop-k-preserved g c = (omega arith, λ given gives. c.max-most.ensures ∙ ap₂ max (c.loop-k.invariant.1 given gives) (gives _ _ c.loop-k-test.true c.each.ensures) ∙ sym (most-more given c.loop-k.k))

pub returns : goal.returns
returns g c given gives =
    let all : c.loop-k.k ≡ c.args.until = omega arith in
    c.loop-k.invariant.1 given gives ∙ ap (most_below given) all
