-- `replay::ticks::columns::Columns::shown` meets its contract. Assumes nothing.
use Rattle.std.proofs.Common.{◌+◌, Bool, cond, sym, ap, ◌∙◌, add-zero}
use Rattle.replay.proofs.ticks.columns.Columns.shown.Goals as goal

pub returns-then-is_backup : goal.returns-then-is_backup
returns-then-is_backup c = ap (λ (b : Bool). c.args.priority + cond b 128 0) (sym c.if-is_backup.true ∙ c.is_backup.ensures)

pub returns : goal.returns
returns c = sym (add-zero _) ∙ ap (λ (b : Bool). c.args.priority + cond b 128 0) (sym c.if-is_backup.false ∙ c.is_backup.ensures)
