-- `text::page::put_share` meets its contract: the names and one line. Assumes nothing.
use mathlib.Core.Path.{refl}
use native.Mathlib.Omega.{arith}
use Rattle.sheet.specs.Layout.{edition_for, is_whole}
use Rattle.text.specs.Shown.{column_at, share_text}
use Rattle.text.proofs.Laid.{put-none, put-more, put_as}
use Rattle.text.proofs.page.put_share.Goals as goal

pub returns-then-round-share : goal.returns-then-round-share
unfolding share_text edition_for is_whole
returns-then-round-share c = rw c.if-round-share.true (omega arith, put-none _ _)

pub returns : goal.returns
unfolding share_text edition_for is_whole column_at
returns c =
    let put = c.put.ensures in
    let row = c.put_row.ensures in
    rw c.if-round-share.false (omega (arith, row.0), put_as refl refl (put-more put refl row.1))
