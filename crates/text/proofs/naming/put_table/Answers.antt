-- `text::naming::put_table` meets its contract: the tasks are put where the head ends. Assumes nothing.
use Prim.Native.Nat.{◌+◌, ◌*◌}
use mathlib.Core.Path.{◌≡◌, refl, sym, ◌∙◌}
use native.Mathlib.Nat.{zero-add}
use native.Mathlib.Omega.{arith}
use Rattle.sheet.specs.Layout.{table_edition}
use Rattle.text.specs.Named.{named_text, named_size}
use Rattle.text.proofs.Laid.{put-more, put_as, put-length}
use Rattle.text.proofs.naming.put_table.Goals as goal

pub put_head-end-requires : goal.put_head-end-requires
unfolding named_size
put_head-end-requires c = (omega arith, omega arith)

pub put_tasks-requires : goal.put_tasks-requires
unfolding named_size
put_tasks-requires c = (c.requires.1, omega (arith, put-length c.put_head-end.ensures.1, c.put_head-end.ensures.0, c.requires.2))

pub returns : goal.returns
unfolding named_text named_size
returns c =
    let t = c.args.table in
    let size : 22 + 36 * table_edition t + 117 + 117 * t.count ≡ 139 + 36 * table_edition t + 117 * t.count = omega arith in
    let end : c.put_head-end.result ≡ 0 + (22 + 36 * table_edition t + 117) = c.put_head-end.ensures.0 ∙ sym (zero-add (22 + 36 * table_edition t + 117)) in
    put_as refl size (put-more c.put_head-end.ensures.1 end c.put_tasks.ensures)
