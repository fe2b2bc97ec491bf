-- `reasons::striking::backup_of` meets its contract. Assumes nothing.
use mathlib.Core.Path.{sym, ap, ◌∙◌}
use mathlib.Core.Bool.{Bool, cond}
use Rattle.sheet.specs.Layout.{record_at}
use Rattle.reasons.specs.Terms.{meant_backup}
use Rattle.reasons.proofs.Placed.{place-few}
use Rattle.reasons.proofs.striking.backup_of.Goals as goal

pub bounds-table-other : goal.bounds-table-other
bounds-table-other c =
    place-few c.args.table c.requires.good c.args.other c.requires.there

pub returns-then-is_meant : goal.returns-then-is_meant
unfolding meant_backup record_at
returns-then-is_meant c = sym (ap (λ (b : Bool). cond b (record_at c.args.table.records c.args.other).backup 0) (sym c.is_meant.ensures ∙ c.if-is_meant.true))

pub returns : goal.returns
unfolding meant_backup record_at
returns c = sym (ap (λ (b : Bool). cond b (record_at c.args.table.records c.args.other).backup 0) (sym c.is_meant.ensures ∙ c.if-is_meant.false))
