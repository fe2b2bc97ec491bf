-- `text::scaling::scaled_table` meets its contract. Assumes nothing.
use Rattle.std.proofs.Common.{arith, ◌≡◌, min}
use Rattle.text.specs.Scaling.{scaled_table}
use Rattle.text.proofs.scaling.scaled_table.Goals as goal

pub returns : goal.returns
unfolding scaled_table
returns c =
    let count : c.min-count.result ≡ min c.args.figures.count 8 = grind arith in
    simp (c.narrow.ensures, c.narrow-2.ensures, c.narrow-3.ensures, c.records_below.ensures, c.share_scale-shared.ensures.value, count)
