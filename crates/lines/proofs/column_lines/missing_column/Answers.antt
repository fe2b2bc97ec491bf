-- `lines::column_lines::missing_column` meets its contract. Assumes nothing.
use Rattle.std.proofs.Common.{rules, arith, tests, not, [], ◌∷◌}
use Rattle.std.proofs.lemmas.Iterator.{YieldsList-from_slice}
use Rattle.std.proofs.lemmas.Iterator.Consumers.{YieldsList-from_copied}
use Rattle.std.proofs.lemmas.Iterator.Search.{find_from_yields_List}
use Rattle.lines.specs.Columns.{missing_column, has_column}
use Rattle.lines.proofs.column_lines.missing_column.Goals as goal

pub returns : goal.returns
unfolding missing_column
returns c =
    let found = find_from_yields_List (λ column. not (has_column c.args.layout column)) _ _ c.find.result c.find.ensures.ran (YieldsList-from_copied (YieldsList-from_slice (1 ∷ 3 ∷ 4 ∷ 6 ∷ []) cc)) (λ x b q k. search (rules, tests)) in
    grind (arith, found)
