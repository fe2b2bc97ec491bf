-- `cores::fitting::first_fit` meets its contract: before each turn every record before the place has its core. Assumes nothing.
use Prim.Native.Nat.{ℕ, ◌≤◌}
use mathlib.Core.Path.{◌≡◌, refl, sym, ap₂, subst, ◌∙◌}
use mathlib.Core.List.{List}
use native.Mathlib.Omega.{arith}
use lib.ListN.{set, replicate}
use Rattle.places.specs.Places.{filled_below}
use Rattle.places.proofs.Turns.{fill_more}
use Rattle.sheet.proofs.Cases.{good-table}
use Rattle.analysis.specs.Common.Entries.{own_tasks}
use Rattle.cores.specs.FirstFit.{core_of}
use Rattle.cores.proofs.FittedSoFar.{given, Fitted, fitted-more, lowest-given, placing-none, placing-all}
use Rattle.cores.proofs.fitting.first_fit.Goals as goal

pub loop-place-init : goal.loop-place-init
unfolding filled_below
loop-place-init c = (omega arith, refl, λ k low. absurd (omega arith))

pub overflow_add-result : goal.overflow_add-result
overflow_add-result c =
    let few : c.args.table.count ≤ 8 = (good-table c.args.table c.requires.good).count.1 in
    omega (arith, few)

pub returns-in-None : goal.returns-in-None
returns-in-None c =
    let few : c.args.table.count ≤ 8 = (good-table c.args.table c.requires.good).count.1 in
    let at = c.loop-place in
    let here : 0 ≡ core_of (own_tasks c.args.table) c.args.number at.place = lowest-given (own_tasks c.args.table) c.args.number _ (omega (arith, few)) _ at.invariant.1 _ (sym c.in-None.ensures.none) in
    placing-none (own_tasks c.args.table) _ at.place c.loop-place-test.true at.invariant.2 (sym here)

pub bounds-cores-place : goal.bounds-cores-place
bounds-cores-place c =
    let few : c.args.table.count ≤ 8 = (good-table c.args.table c.requires.good).count.1 in
    omega (arith, few)

pub loop-place-preserved : goal.loop-place-preserved
loop-place-preserved c =
    let few : c.args.table.count ≤ 8 = (good-table c.args.table c.requires.good).count.1 in
    let core-here : c.in-Some.core ≡ core_of (own_tasks c.args.table) c.args.number c.loop-place.place = lowest-given (own_tasks c.args.table) c.args.number _ (omega (arith, few)) _ c.loop-place.invariant.1 _ c.in-Some.ensures.some.1 in
    let at = c.loop-place in
    let given_to = c.args in
    let s = own_tasks given_to.table in (
      omega arith,
      ap₂ (λ (l : List ℕ) (core : ℕ). set l at.place core) at.invariant.1 core-here ∙ sym (fill_more (core_of s given_to.number) at.place (replicate 8 0)),
      fitted-more s given_to.number at.place at.invariant.2 (λ none. absurd (omega (arith, c.in-Some.ensures.some.0, core-here ∙ none))),
    )

pub returns : goal.returns
returns c =
    let at = c.loop-place in
    let given_to = c.args in
    let all : at.place ≡ given_to.table.count = omega arith in
    placing-all (own_tasks given_to.table) given_to.number at.cores (subst (λ (n : ℕ). at.cores ≡ given (own_tasks given_to.table) given_to.number n) all at.invariant.1) (subst (Fitted (own_tasks given_to.table) given_to.number) all at.invariant.2)
