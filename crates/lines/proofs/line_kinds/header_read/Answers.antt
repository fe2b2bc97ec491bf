-- `lines::line_kinds::header_read` meets its contract: its cells one after the other are a fold. Assumes nothing.
use Rattle.std.proofs.Common.{rules, arith, ◌∙◌, ◌≡◌, true, min, refl}
use Rattle.std.proofs.lemmas.Iterator.{YieldsList-from_range}
use Rattle.std.proofs.lemmas.Iterator.Consumers.{fold_from_yields_List}
use Rattle.lines.specs.Lines.{header_read, cell_read, cells_read}
use Rattle.lines.proofs.Folds.{step, cells_fold}
use Rattle.lines.proofs.line_kinds.header_read.Goals as goal

pub returns : goal.returns
unfolding header_read cell_read
returns c =
    let count : c.min.result ≡ min c.args.cells.count 8 = grind arith in
    let read : c.fold-read.result ≡ cells_read true c.args.reading c.args.number c.args.line.now c.args.cells c.min.result =
    fold_from_yields_List _ (step true c.args.number c.args.line.now c.args.cells) _ _ c.fold-read.ensures.ran (YieldsList-from_range 0 c.min.result c.min.result refl (omega arith)) (λ a x b q k. search rules) ∙ cells_fold true c.args.number c.args.line.now c.args.cells c.args.reading c.min.result in
    simp (← count, ← read) c.header_ended.ensures
