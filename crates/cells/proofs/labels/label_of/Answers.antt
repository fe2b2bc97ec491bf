-- `cells::labels::label_of` meets its contract. Assumes nothing.
use Rattle.cells.specs.Names.{label_of}
use Rattle.cells.proofs.labels.label_of.Goals as goal

pub returns-then-not-is_well_quoted : goal.returns-then-not-is_well_quoted
unfolding label_of
returns-then-not-is_well_quoted c = simp (← c.is_well_quoted.ensures, c.if-not-is_well_quoted.true) c.no_label.ensures

pub returns : goal.returns
unfolding label_of
returns c = simp (← c.is_well_quoted.ensures, c.if-not-is_well_quoted.false, ← c.content_of.ensures) c.label_from.ensures
