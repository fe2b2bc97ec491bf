-- `cells::number_of` meets its contract. Assumes nothing.
use Rattle.cells.specs.Numbers.{number_of}
use Rattle.cells.proofs.number_of.Goals as goal

pub returns-then-not-is_well_quoted : goal.returns-then-not-is_well_quoted
unfolding number_of
returns-then-not-is_well_quoted c = simp (← c.is_well_quoted.ensures, c.if-not-is_well_quoted.true) c.not_number.ensures

pub returns : goal.returns
unfolding number_of
returns c = simp (← c.is_well_quoted.ensures, c.if-not-is_well_quoted.false, ← c.content_of.ensures) c.spelled.ensures
