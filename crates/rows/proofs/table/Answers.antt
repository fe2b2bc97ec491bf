-- `rows::table` meets its contract: the base, what is replaced in it, and the table of that. Assumes nothing.
use Rattle.std.proofs.Common.{ℕ, List, ap, ◌∙◌}
use Rattle.rows.specs.Tables.{patched_by, table_of, table_by}
use Rattle.rows.proofs.table.Goals as goal

pub returns : goal.returns
unfolding table_by
returns c =
    let given = c.args in
    c.table.ensures ∙ ap table_of (c.patched.ensures ∙ ap (λ (fields : List ℕ). patched_by fields given.list.now given.start given.first) c.fields_of.ensures)
