-- `analysis::common::tasks::Chosen::meets` meets its contract: no task from the rank on misses its deadline. Assumes nothing.
use Prim.Native.Nat.{◌-◌}
use mathlib.Core.Path.{sym, ap, ◌∙◌}
use mathlib.Core.Bool.{not}
use mathlib.Core.Logic.{⊎_elim}
use native.Mathlib.Nat.{eq-or-lt_of_le}
use native.Mathlib.Omega.{arith}
use Rattle.places.proofs.Some.{some-found, some-none}
use Rattle.analysis.specs.Common.Lent.{chosen_in}
use Rattle.analysis.proofs.Laws.ByRule.{meets-each}
use borrow.Author.Rules.{rules}
use Rattle.analysis.proofs.common.tasks.Chosen.meets.Invariants.{missed}
use Rattle.analysis.proofs.common.tasks.Chosen.meets.Goals as goal

pub loop-rank-init : goal.loop-rank-init
loop-rank-init c = (search rules, λ k high low. absurd (omega arith))

pub returns-then-misses : goal.returns-then-misses
returns-then-misses c =
    let at = c.loop-rank in
    let s = chosen_in c.args.self.now in
    sym (meets-each c.args.rule s ∙ ap not (some-found (missed c.args.rule s) (at.rank - 1) s.count (omega arith) (sym c.misses.ensures ∙ c.if-misses.true)))

pub loop-rank-preserved : goal.loop-rank-preserved
loop-rank-preserved c =
    let at = c.loop-rank in
    let s = chosen_in c.args.self.now in (
      omega arith,
      λ k high low. ⊎_elim (λ e. ap (missed c.args.rule s) (sym e) ∙ sym c.misses.ensures ∙ c.if-misses.false) (λ past. at.invariant.1 k (omega arith) low) (eq-or-lt_of_le high),
    )

pub returns : goal.returns
returns c =
    let s = chosen_in c.args.self.now in
    sym (meets-each c.args.rule s ∙ ap not (some-none (missed c.args.rule s) s.count (λ k low. c.loop-rank.invariant.1 k (omega arith) low)))
