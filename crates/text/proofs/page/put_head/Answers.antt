-- `text::page::put_head` meets its contract: each part is put where the one before it ends. Assumes nothing.
use Prim.Native.Nat.{◌+◌, ◌*◌}
use mathlib.Core.Path.{◌≡◌, refl}
use mathlib.Core.List.{◌++◌}
use native.Mathlib.Omega.{arith}
use Rattle.sheet.specs.Layout.{table_edition}
use Rattle.text.specs.Shown.{column_at, interval_text, share_text}
use Rattle.text.specs.Putting.{Put}
use Rattle.text.proofs.Laid.{put-more, put_as, put-length}
use Rattle.text.proofs.page.put_head.Goals as goal

pub put_share-end-requires : goal.put_share-end-requires
unfolding column_at
put_share-end-requires c =
    omega (arith, put-length c.put.ensures, put-length c.put_row-end.ensures.1, c.put_row-end.ensures.0)

pub put-requires-2 : goal.put-requires-2
unfolding column_at
put-requires-2 c =
    omega (arith, put-length c.put.ensures, put-length c.put_row-end.ensures.1, put-length c.put_share-end.ensures.1, c.put_row-end.ensures.0, c.put_share-end.ensures.0)

pub overflow_add-result : goal.overflow_add-result
unfolding column_at
overflow_add-result c =
    record { fits = omega (arith, c.put_row-end.ensures.0, c.put_share-end.ensures.0, c.requires.1) }

pub returns : goal.returns
unfolding column_at interval_text
returns c =
    let t = c.args.table in
    let interval : Put c.args.out.now 0 (interval_text t.interval) 22 c.put_row-end.new.out = put_as refl refl (put-more c.put.ensures refl c.put_row-end.ensures.1) in
    let shared : Put c.args.out.now 0 (interval_text t.interval ++ share_text t.round t.share) (22 + 36 * table_edition t) c.put_share-end.new.out = put-more interval c.put_row-end.ensures.0 c.put_share-end.ensures.1 in
    let ends : c.put_share-end.result ≡ 0 + (22 + 36 * table_edition t) = omega (arith, c.put_share-end.ensures.0, c.put_row-end.ensures.0) in
    (omega (arith, ends), put-more shared ends c.put-2.ensures)
