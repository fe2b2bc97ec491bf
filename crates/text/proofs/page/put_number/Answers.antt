-- `text::page::put_number` meets its contract: ten bytes cut to the column. Assumes nothing.
use mathlib.Core.Path.{refl, ap, ◌∙◌}
use lib.Seq.{sets}
use native.Mathlib.Omega.{arith}
use Rattle.text.proofs.Aligned.{column-wide, cell_cut, length-padded}
use Rattle.text.proofs.page.put_number.Goals as goal

pub returns : goal.returns
returns c =
    let wide = column-wide c.args.column c.requires.0 in
    let cell = c.cell.ensures in
    (refl, record { long = length-padded _ _ (omega (arith, cell.1, wide.0)); content = c.put.ensures.content ∙ ap (sets c.args.out.now c.args.at) (cell_cut _ _ _ cell.0 cell.1 wide.0 wide.1) })
