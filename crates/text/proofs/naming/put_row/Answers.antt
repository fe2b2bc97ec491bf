-- `text::naming::put_row` meets its contract. Assumes nothing.
use Prim.Native.Nat.{ℕ}
use mathlib.Core.Path.{refl, ap, ◌∙◌}
use mathlib.Core.List.{List}
use lib.ListN.{length}
use Rattle.text.specs.declared.Quote.{Quote}
use Rattle.text.specs.Shown.{column_at, row_text}
use native.Mathlib.Omega.{arith}
use Rattle.text.specs.Named.{named_row}
use Rattle.text.proofs.Inked.{long-quoted}
use Rattle.text.proofs.Laid.{put-more, put_as}
use Rattle.text.proofs.naming.put_row.Goals as goal

pub returns : goal.returns
unfolding named_row column_at
returns c =
    let given = c.args in
    let cell = c.quoted.ensures in
    let long = ap (λ (q : Quote). length q.bytes) cell ∙ long-quoted given.name in
    let row = c.put_row.ensures in
    let numbers = put_as (ap (λ (l : List ℕ). row_text l 6) c.task_numbers.ensures) refl row.1 in
    (omega (arith, row.0), put-more (put_as (ap (λ (q : Quote). q.bytes) cell) long c.put.ensures) refl numbers)
