-- `analysis::common::tasks::Chosen::assessed` meets its contract: before each turn the entries of the places below stand there, and it is known whether one of them says late. Assumes nothing.
use Prim.Native.Nat.{ℕ}
use mathlib.Core.Path.{◌≡◌, refl, ap, ◌∙◌}
use mathlib.Core.Bool.{not}
use mathlib.Core.List.{List}
use native.Mathlib.Omega.{arith}
use lib.ListN.{get_or, replicate}
use Rattle.places.specs.Places.{some_below, filled_below}
use Rattle.places.proofs.Turns.{some_turn, fill-turn}
use Rattle.analysis.specs.declared.Entry.{Entry}
use Rattle.analysis.specs.declared.Rule.{Rule}
use Rattle.analysis.specs.Common.Tasks.{Tasks}
use Rattle.analysis.specs.Common.Entries.{says_late, no_entry}
use Rattle.analysis.specs.Common.Lent.{chosen_in}
use Rattle.analysis.specs.ByRule.{time_by, entry_by, ranked_assessment}
use Rattle.analysis.proofs.Laws.Common.Verdicts.{entry-late}
use Rattle.analysis.proofs.common.tasks.Chosen.assessed.Invariants.{entry_at, late_at}
use Rattle.analysis.proofs.common.tasks.Chosen.assessed.Goals as goal

-- an entry by a rule says so
said : (rule : Rule) (s : Tasks) (ranks : List ℕ) (place : ℕ) → says_late (entry_at rule s ranks place).outcome ≡ late_at rule s ranks place
unfolding entry_by
said rule s ranks place = entry-late (s.at (get_or ranks place 0)).deadline (time_by rule s (get_or ranks place 0))

pub loop-place-init : goal.loop-place-init
unfolding some_below filled_below
loop-place-init c = (omega arith, ap (λ (e : Entry). replicate 8 e) c.no_entry-entries.ensures, refl)

pub bounds-ranks-place : goal.bounds-ranks-place
bounds-ranks-place c = omega (arith, c.args.self.now.tasks.order.few)

pub invariant_of-task : goal.invariant_of-task
invariant_of-task c = record { below = c.requires c.loop-place.place (omega (arith, c.loop-place-test.true)) }

pub offset_bounds-entries-place : goal.offset_bounds-entries-place
offset_bounds-entries-place c = omega (arith, c.args.self.now.tasks.order.few)

pub bounds-entries-place : goal.bounds-entries-place
bounds-entries-place c = omega (arith, c.args.self.now.tasks.order.few)

pub loop-place-preserved : goal.loop-place-preserved
loop-place-preserved c =
    let filled = c.entry-filled.ensures in
    let at = c.loop-place in
    let args = c.args in
    let s = chosen_in args.self.now in
    let ranks = args.ranks.now in (
      omega arith,
      fill-turn (entry_at args.rule s ranks) (replicate 8 no_entry) at.invariant.1 filled,
      some_turn (late_at args.rule s ranks) at.invariant.2 (c.says_late-some_late.ensures ∙ ap (λ (e : Entry). says_late e.outcome) filled ∙ said args.rule s ranks at.place),
    )

pub returns : goal.returns
unfolding ranked_assessment
returns c =
    let at = c.loop-place in
    let args = c.args in
    let s = chosen_in args.self.now in
    let ranks = args.ranks.now in
    let all : at.place ≡ args.self.now.tasks.frame.count = omega arith in
    let entries = at.invariant.1 ∙ ap (λ (n : ℕ). filled_below (entry_at args.rule s ranks) n (replicate 8 no_entry)) all in
    let late = at.invariant.2 ∙ ap (some_below (late_at args.rule s ranks)) all in
    λ j. record { entries = entries j; passes = not (late j) }
