-- `fidhaqooban::answers::time_of` meets its contract. Assumes nothing.
use mathlib.Core.Path.{sym, ap}
use Rattle.fidhaqooban.specs.Numbers.{time_of}
use borrow.Author.Rules.{rules}
use Rattle.fidhaqooban.proofs.answers.time_of.Goals as goal

pub returns-in-OnTime : goal.returns-in-OnTime
unfolding time_of
returns-in-OnTime c = record {
  answer = sym (ap time_of c.in-OnTime.is);
  bounded = search rules;
}

pub returns-in-Late : goal.returns-in-Late
unfolding time_of
returns-in-Late c = record {
  answer = sym (ap time_of c.in-Late.is);
  bounded = search rules;
}
