-- `cells::split` meets its contract: before each turn the cells so far, with those of the bytes from the place on, are those of the line. Assumes nothing.
use mathlib.Core.Path.{sym, ap, ap₂, ◌∙◌}
use Prim.Native.Nat.{◌+◌}
use native.Mathlib.Omega.{arith}
use lib.ListN.{drop, drop_of_length-le}
use Rattle.cells.specs.Cells.{cells_of, cells_from}
use Rattle.cells.proofs.Turns.{cells-more}
use borrow.Author.Rules.{rules}
use Rattle.cells.proofs.split.Goals as goal

pub loop-at-preserved : goal.loop-at-preserved
loop-at-preserved c = (search rules, ap₂ (λ cells span. cells_from cells c.args.separator span (c.loop-at.at + 1) (drop (c.loop-at.at + 1) c.args.line.now)) c.cells_after-cells.ensures c.span_after-span.ensures ∙ sym (cells-more c.args.line.now c.loop-at.at (search rules) c.loop-at.cells c.args.separator c.loop-at.span) ∙ c.loop-at.invariant.1)

pub returns : goal.returns
unfolding cells_of cells_from
returns c = c.cells_at_end.ensures ∙ sym (ap (cells_from c.loop-at.cells c.args.separator c.loop-at.span c.loop-at.at) (drop_of_length-le c.args.line.now {i = c.loop-at.at} (omega arith))) ∙ c.loop-at.invariant.1 ∙ ap₂ (λ cells span. cells_from cells c.args.separator span 0 c.args.line.now) c.no_cells-cells.ensures c.empty_at-span.ensures
