-- `report::composing::with_name` meets its contract: one text after the other, from where the newline stood. Assumes nothing.
use native.Mathlib.Omega.{arith}
use Rattle.report.specs.Words.{space, newline}
use Rattle.report.specs.Titles.{opened_line}
use Rattle.report.proofs.Putting.{put-more, len-put}
use Rattle.report.proofs.composing.with_name.Goals as goal

pub with_word-named-requires : goal.with_word-named-requires
with_word-named-requires c = omega (arith, len-put _ space c.with_word.ensures)

pub with_word-requires-2 : goal.with_word-requires-2
with_word-requires-2 c =
    omega (arith, len-put _ space c.with_word.ensures, len-put _ _ c.with_word-named.ensures)

pub returns : goal.returns
unfolding opened_line
returns c =
    put-more _ _ newline (put-more _ space _ c.with_word.ensures c.with_word-named.ensures) c.with_word-2.ensures
