-- `reasons::adding::own` meets its contract. Assumes nothing.
use mathlib.Core.Path.{ap, ◌∙◌}
use native.Mathlib.Omega.{arith}
use Rattle.reasons.specs.declared.Tip.TheVariants.{OwnBackup}
use Rattle.reasons.specs.declared.adding.Total.{Total}
use Rattle.reasons.specs.Adding.{added, own_added}
use Rattle.reasons.proofs.adding.own.Goals as goal

pub added-requires : goal.added-requires
unfolding added
added-requires c =
    let sum = ap (λ (t : Total). t.sum) c.added-first.ensures in
    record {
      room = omega (arith, sum);
      small = omega arith;
    }

pub returns : goal.returns
unfolding own_added added
returns c =
    let args = c.args in
    let same = c.added.ensures ∙ ap (added args.deadline OwnBackup args.backup) c.added-first.ensures in
    record {
      same = same;
      small = omega (arith, ap (λ (t : Total). t.sum) same);
    }
