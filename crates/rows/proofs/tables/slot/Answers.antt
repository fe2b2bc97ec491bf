-- `rows::tables::slot` meets its contract: a number that no field has gives 0. Assumes nothing.
use Rattle.std.proofs.Common.{rules, le-ltb, lt-ltb}
use Rattle.rows.specs.Tables.{slot_of}
use Rattle.rows.proofs.tables.slot.Goals as goal

pub returns-then-field-lt53 : goal.returns-then-field-lt53
unfolding slot_of
returns-then-field-lt53 c = record {
  answer = simp (lt-ltb _ 53 c.if-field-lt53.true);
  bounded = search rules;
}

pub returns-else-field-lt53 : goal.returns-else-field-lt53
unfolding slot_of
returns-else-field-lt53 c = record {
  answer = simp (le-ltb _ 53 c.if-field-lt53.false);
  bounded = search rules;
}
