-- `lines::refusing::excerpt_of` meets its contract: what is copied fills the excerpt from its start. Assumes nothing.
use Rattle.std.proofs.Common.{arith, ◌≡◌, min, length, replicate}
use Rattle.lines.specs.Troubles.{excerpt_of}
use Rattle.lines.proofs.Folds.{copied_filled}
use Rattle.lines.proofs.refusing.excerpt_of.Goals as goal

pub returns : goal.returns
unfolding excerpt_of
returns c =
    let shown = c.args.shown.now in
    let count : c.min-count.result ≡ min (length shown) 20 = grind arith in
    simp (← count, ← (copied_filled 0 shown (replicate 20 0) c.min-count.result (omega arith) (omega arith)), c.copy_from_slice.ensures.after)
