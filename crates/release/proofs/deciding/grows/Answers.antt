-- `release::deciding::grows` meets its contract. Assumes nothing.
use mathlib.Core.Path.{sym, ap, ap₂}
use Rattle.analysis.specs.declared.Outcome.{Outcome}
use Rattle.release.specs.Rules.{grows}
use Rattle.release.proofs.deciding.grows.Goals as goal

pub returns-in-OnTime-after : goal.returns-in-OnTime-after
unfolding grows
returns-in-OnTime-after c = sym (ap₂ grows c.in-OnTime.is c.in-OnTime-after.is)

pub returns-in-Late-after : goal.returns-in-Late-after
unfolding grows
returns-in-Late-after c = sym (ap₂ grows c.in-OnTime.is c.in-Late-after.is)

pub returns-in-Late : goal.returns-in-Late
unfolding grows
returns-in-Late c = sym (ap (λ (o : Outcome). grows o c.args.after) c.in-Late.is)
