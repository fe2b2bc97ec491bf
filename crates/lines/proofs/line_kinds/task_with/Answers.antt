-- `lines::line_kinds::task_with` meets its contract. Assumes nothing.
use Rattle.std.proofs.Common.{rules, arith, ◌∙◌, ◌≡◌, false, min, refl}
use Rattle.std.proofs.lemmas.Iterator.{YieldsList-from_range}
use Rattle.std.proofs.lemmas.Iterator.Consumers.{fold_from_yields_List}
use Rattle.lines.specs.Lines.{task_with, cell_read, cells_read}
use Rattle.lines.proofs.Folds.{step, cells_fold}
use borrow.Author.Tests.{le-leb, lt-leb}
use Rattle.lines.proofs.line_kinds.task_with.Goals as goal

pub returns-then-reading-ge8 : goal.returns-then-reading-ge8
unfolding task_with
returns-then-reading-ge8 c = simp (le-leb _ _ c.if-reading-ge8.true, ← c.extent_of.ensures.start, ← c.extent_of.ensures.end) c.fails.ensures

pub returns : goal.returns
unfolding task_with cell_read
returns c =
    let count : c.min.result ≡ min c.args.cells.count 8 = grind arith in
    let read : c.fold-read.result ≡ cells_read false c.args.reading c.args.number c.args.line.now c.args.cells c.min.result =
    fold_from_yields_List _ (step false c.args.number c.args.line.now c.args.cells) _ _ c.fold-read.ensures.ran (YieldsList-from_range 0 c.min.result c.min.result refl (omega arith)) (λ a x b q k. search rules) ∙ cells_fold false c.args.number c.args.line.now c.args.cells c.args.reading c.min.result in
    simp (lt-leb 8 c.args.reading.count c.if-reading-ge8.false, ← count, ← read) c.task_ended.ensures
