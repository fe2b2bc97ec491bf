-- `cells::name_of` meets its contract. Assumes nothing.
use Rattle.cells.specs.Names.{name_of}
use Rattle.cells.proofs.name_of.Goals as goal

pub returns-then-not-is_well_quoted : goal.returns-then-not-is_well_quoted
unfolding name_of
returns-then-not-is_well_quoted c = simp (← c.is_well_quoted.ensures, c.if-not-is_well_quoted.true, ← c.misspelt.ensures) c.from.ensures

pub returns : goal.returns
unfolding name_of
returns c = simp (← c.is_well_quoted.ensures, c.if-not-is_well_quoted.false, ← c.is_quoted-quoted.ensures, ← c.content_of.ensures, ← c.spelled.ensures) c.from-2.ensures
