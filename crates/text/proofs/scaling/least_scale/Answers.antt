-- `text::scaling::least_scale` meets its contract. Assumes nothing.
use Rattle.std.proofs.Common.{arith, ◌≡◌, min}
use Rattle.text.specs.Scaling.{least_scale}
use Rattle.text.proofs.scaling.least_scale.Goals as goal

pub returns-then-high_below : goal.returns-then-high_below
unfolding least_scale
returns-then-high_below c =
    let count : c.min-count.result ≡ min c.args.figures.count 8 = grind arith in
    simp (← count, ← c.high_below.ensures, c.if-high_below.true)

pub returns : goal.returns
unfolding least_scale
returns c =
    let count : c.min-count.result ≡ min c.args.figures.count 8 = grind arith in
    simp (← count, ← c.high_below.ensures, c.if-high_below.false, ← c.least_first.ensures) c.least_below.ensures
