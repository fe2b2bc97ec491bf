-- `report::titled_line` meets its contract: the name is put where it has room. Assumes nothing.
use mathlib.Core.Path.{sym, ◌∙◌}
use Rattle.report.proofs.Titles.{takes-tells, titled-with, titled-without}
use Rattle.report.proofs.titled_line.Goals as goal

pub with_name-requires : goal.with_name-requires
with_name-requires c =
    let whole = takes-tells _ _ (sym c.takes_name.ensures ∙ c.if-takes_name.true) in
    record { filled = whole.0; room = whole.1 }

pub returns-then-takes_name : goal.returns-then-takes_name
returns-then-takes_name c = c.with_name.ensures ∙ sym (titled-with _ _ (sym c.takes_name.ensures ∙ c.if-takes_name.true))

pub returns : goal.returns
returns c = sym (titled-without _ _ (sym c.takes_name.ensures ∙ c.if-takes_name.false))
