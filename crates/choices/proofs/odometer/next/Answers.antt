-- `choices::odometer::next` meets its contract: the carry, from the last place to the first. Assumes nothing.
use Prim.Native.Nat.{ℕ, suc, ◌+◌, ◌-◌, ◌≤◌, ◌<◌}
use mathlib.Core.Path.{◌≡◌, sym, ap, subst, ◌∙◌}
use mathlib.Core.Bool.{true}
use native.Mathlib.Omega.{arith}
use borrow.Author.Tests.{ltb-true, ltb-false}
use lib.ListN.{get_or, set}
use Rattle.choices.specs.Stepping.{Carried}
use Rattle.choices.proofs.Carrying.{Carrying, carrying-start, entry_kept, carrying-more, carrying-found, next-carried, next-first}
use Rattle.choices.proofs.odometer.next.Goals as goal

pub returns-then-all_zero : goal.returns-then-all_zero
returns-then-all_zero c =
    let zero = sym c.all_zero.ensures ∙ c.if-all_zero.true in
    let said = next-first c.args.priorities.now c.args.choice.now zero in
    record {
      answer = ap (λ (r : Carried). r.rose) (sym said);
      left = c.first_choice.ensures ∙ ap (λ (r : Carried). r.entries) (sym said);
    }

pub loop-place-init : goal.loop-place-init
loop-place-init c =
    carrying-start _ _ c.told-priorities c.told-choice

pub bounds-choice-place : goal.bounds-choice-place
bounds-choice-place c = omega (arith, c.loop-place.invariant.reached)

pub bounds-priorities-place : goal.bounds-priorities-place
bounds-priorities-place c = omega (arith, c.loop-place.invariant.reached)

pub bounds-choice-place-then-can_rise : goal.bounds-choice-place-then-can_rise
bounds-choice-place-then-can_rise c = omega (arith, c.loop-place.invariant.reached)

pub overflow_add-choice : goal.overflow_add-choice
overflow_add-choice c = omega (arith, c.can_rise.ensures.room c.if-can_rise.true)

pub bounds-choice-place-then-can_rise-2 : goal.bounds-choice-place-then-can_rise-2
bounds-choice-place-then-can_rise-2 c = omega (arith, c.loop-place.invariant.reached)

pub returns-then-can_rise : goal.returns-then-can_rise
returns-then-can_rise c =
    let behind : Carrying c.args.priorities.now c.args.choice.now c.loop-place.choice (c.loop-place.place - 1 + 1) = (
    let same : c.loop-place.place ≡ c.loop-place.place - 1 + 1 = omega (arith, c.loop-place-test.true) in
    subst (Carrying c.args.priorities.now c.args.choice.now c.loop-place.choice) same c.loop-place.invariant
    ) in
    let priorities = c.args.priorities.now in
    let choice = c.args.choice.now in
    let at = c.loop-place in
    let k = at.place - 1 in
    let zero = sym c.all_zero.ensures ∙ c.if-all_zero.false in
    let kept = entry_kept _ _ c.told-priorities c.told-choice _ k behind in
    let rises = ltb-true (get_or at.choice k 0) (get_or priorities k 0) (sym c.can_rise.ensures.same ∙ c.if-can_rise.true) in
    let found = carrying-found _ _ c.told-priorities c.told-choice _ k behind (subst (λ (n : ℕ). n < get_or priorities k 0) kept rises) in
    let risen : suc (get_or choice k 0) ≡ get_or at.choice k 0 + 1 = omega (arith, kept) in
    let said = next-carried priorities choice zero ∙ found ∙ ap (λ (q : ℕ). record { rose = true; entries = set at.choice k q }) risen in
    record {
      answer = ap (λ (r : Carried). r.rose) (sym said);
      left = ap (λ (r : Carried). r.entries) (sym said);
    }

pub bounds-priorities-place-in-loop-place : goal.bounds-priorities-place-in-loop-place
bounds-priorities-place-in-loop-place c = omega (arith, c.loop-place.invariant.reached)

pub bounds-choice-place-in-loop-place : goal.bounds-choice-place-in-loop-place
bounds-choice-place-in-loop-place c = omega (arith, c.loop-place.invariant.reached)

pub loop-place-preserved : goal.loop-place-preserved
loop-place-preserved c =
    let behind : Carrying c.args.priorities.now c.args.choice.now c.loop-place.choice (c.loop-place.place - 1 + 1) = (
    let same : c.loop-place.place ≡ c.loop-place.place - 1 + 1 = omega (arith, c.loop-place-test.true) in
    subst (Carrying c.args.priorities.now c.args.choice.now c.loop-place.choice) same c.loop-place.invariant
    ) in
    let priorities = c.args.priorities.now in
    let at = c.loop-place in
    let k = at.place - 1 in
    let kept = entry_kept _ _ c.told-priorities c.told-choice _ k behind in
    let full = ltb-false (get_or at.choice k 0) (get_or priorities k 0) (sym c.can_rise.ensures.same ∙ c.if-can_rise.false) in
    subst (λ (q : ℕ). Carrying priorities c.args.choice.now (set at.choice k q) k) (sym c.first_fault.ensures)
    (carrying-more _ _ c.told-priorities c.told-choice _ k behind (subst (λ (n : ℕ). get_or priorities k 0 ≤ n) kept full))

pub returns : goal.returns
returns c =
    let priorities = c.args.priorities.now in
    let choice = c.args.choice.now in
    let zero = sym c.all_zero.ensures ∙ c.if-all_zero.false in
    let at = c.loop-place in
    let none : at.place ≡ 0 = omega arith in
    let last : Carrying priorities choice at.choice 0 = subst (Carrying priorities choice at.choice) none at.invariant in
    let said = next-carried priorities choice zero in
    record {
      answer = sym (ap (λ (r : Carried). r.rose) said ∙ last.still);
      left = last.content ∙ ap (λ (r : Carried). r.entries) (sym said);
    }
