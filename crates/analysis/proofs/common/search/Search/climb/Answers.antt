-- `analysis::common::search::Search::climb` meets its contract: every length below the trial asks for more than itself. Assumes nothing.
use Prim.Native.Nat.{ℕ, ◌≤◌}
use mathlib.Core.Path.{sym, subst}
use native.Mathlib.Omega.{arith}
use Rattle.analysis.proofs.Laws.Common.Climbing.{missed-join, missed-start, least-found, least-none}
use Rattle.analysis.proofs.common.search.Search.climb.Goals as goal

pub loop-trial-init : goal.loop-trial-init
loop-trial-init c = (omega arith, missed-start _ c.args.start c.args.limit)

pub asked-asked-requires : goal.asked-asked-requires
asked-asked-requires c =
    let given = c.requires in
    record {
      some = omega (arith, given.some, c.loop-trial.invariant.0);
      short = omega arith;
    }

pub returns-then-asked-length : goal.returns-then-asked-length
returns-then-asked-length c =
    let at = c.loop-trial in
    record {
      same = sym (least-found _ c.args.start c.args.limit at.trial.length at.invariant.0 c.loop-trial-test.true at.invariant.1 (subst (λ (n : ℕ). n ≤ at.trial.length) c.asked-asked.ensures.same c.if-asked-length.true));
      small = omega arith;
    }

pub onward-trial-requires : goal.onward-trial-requires
onward-trial-requires c =
    let given = c.requires in
    record {
      some = omega (arith, given.some, c.loop-trial.invariant.0);
      short = omega arith;
      asked = c.asked-asked.ensures.same;
      small = c.asked-asked.ensures.small;
    }

pub loop-trial-smaller : goal.loop-trial-smaller
loop-trial-smaller c = omega (arith, c.onward-trial.ensures.past)

pub loop-trial-preserved : goal.loop-trial-preserved
loop-trial-preserved c =
    let at = c.loop-trial in
    (omega (arith, c.onward-trial.ensures.past), missed-join _ at.invariant.1 c.onward-trial.ensures.short)

pub returns : goal.returns
returns c =
    let at = c.loop-trial in
    record {
      same = sym (least-none _ c.args.start c.args.limit at.trial.length c.loop-trial-test.false at.invariant.1);
      small = omega arith;
    }
