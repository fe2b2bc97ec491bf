-- `reasons::adding::with_tasks` meets its contract: before each turn the terms of the places below are added. Assumes nothing.
use Prim.Native.Nat.{ℕ}
use mathlib.Core.Path.{◌≡◌, refl, sym, ap, ap₂, ◌∙◌}
use native.Mathlib.Omega.{arith}
use Rattle.reasons.specs.declared.Tip.TheVariants.{Task}
use Rattle.reasons.specs.declared.adding.Total.{Total}
use Rattle.reasons.specs.Adding.{amount, added, tasks_added}
use Rattle.reasons.proofs.Tipped.{tasks-more}
use Rattle.reasons.proofs.adding.with_tasks.Goals as goal

pub loop-place-init : goal.loop-place-init
unfolding tasks_added
loop-place-init c = (omega arith, refl, c.requires.room)

pub added-so_far-requires : goal.added-so_far-requires
added-so_far-requires c = record {
  room = omega (arith, c.loop-place.invariant);
  small = c.amount-ticks.ensures.small;
}

pub loop-place-preserved : goal.loop-place-preserved
unfolding amount added
loop-place-preserved c =
    let at = c.loop-place in
    let args = c.args in
    let term = c.amount-ticks in
    let sum = ap (λ (t : Total). t.sum) c.added-so_far.ensures in (
      omega arith,
      c.added-so_far.ensures ∙ ap₂ (λ (n : ℕ) (t : Total). added args.deadline (Task at.place) n t) term.ensures.same at.invariant.1 ∙ sym (tasks-more args.deadline args.tasks at.place args.total),
      omega (arith, sum, term.ensures.small, at.invariant.2),
    )

pub returns : goal.returns
returns c =
    let at = c.loop-place in
    let args = c.args in
    let all : at.place ≡ 8 = omega arith in
    record {
      same = at.invariant.1 ∙ ap (λ (n : ℕ). tasks_added args.deadline args.tasks n args.total) all;
      small = omega (arith, at.invariant.2);
    }
