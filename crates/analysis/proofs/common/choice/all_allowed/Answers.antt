-- `analysis::common::choice::all_allowed` meets its contract: those passed are allowed. Assumes nothing.
use Prim.Native.Nat.{ℕ, ◌+◌, ◌<◌}
use mathlib.Core.Path.{◌≡◌, sym, ap, ap₂, ◌∙◌}
use mathlib.Core.Bool.{Bool, ◌&&◌}
use native.Mathlib.Omega.{arith}
use mathlib.Core.List.{List, []}
use lib.ListN.{length, get_or, drop, drop_of_length-le}
use Rattle.analysis.specs.Common.Columns.{priorities_of}
use Rattle.analysis.specs.Common.Allowed.{is_allowed, all_allowed}
use Rattle.analysis.proofs.Laws.Common.Choice.{length-priorities, allowed_at}
use borrow.Author.Rules.{rules}
use Rattle.analysis.proofs.common.choice.all_allowed.Goals as goal

pub loop-place-preserved : goal.loop-place-preserved
loop-place-preserved c =
    let priorities : List ℕ = priorities_of c.args.table in
    let faults : List ℕ = c.args.choice in
    let next : ℕ = c.loop-place.place + 1 in
    let from_place : all_allowed priorities faults ≡ (c.is_allowed.result && all_allowed (drop next priorities) (drop next faults)) = (
    let at = c.loop-place in
    let here = c.loop-place-test.true in
    let eight : (length priorities ≡ 8) × (length faults ≡ 8) = (length-priorities _, search rules) in
    let below : (at.place < length priorities) × (at.place < length faults) = (omega (arith, here), omega (arith, here)) in
    at.invariant.1 ∙ allowed_at priorities faults at.place below.0 below.1
    ∙ ap (λ (b : Bool). b && all_allowed (drop next priorities) (drop next faults))
    (ap (λ (p : ℕ). is_allowed p (get_or faults at.place 0)) (sym c.priority_at.ensures) ∙ sym c.is_allowed.ensures)
    ) in
    (search rules, from_place ∙ simp c.if-not-is_allowed.false)

pub returns-then-not-is_allowed : goal.returns-then-not-is_allowed
returns-then-not-is_allowed c =
    let priorities : List ℕ = priorities_of c.args.table in
    let faults : List ℕ = c.args.choice in
    let next : ℕ = c.loop-place.place + 1 in
    let from_place : all_allowed priorities faults ≡ (c.is_allowed.result && all_allowed (drop next priorities) (drop next faults)) = (
    let at = c.loop-place in
    let here = c.loop-place-test.true in
    let eight : (length priorities ≡ 8) × (length faults ≡ 8) = (length-priorities _, search rules) in
    let below : (at.place < length priorities) × (at.place < length faults) = (omega (arith, here), omega (arith, here)) in
    at.invariant.1 ∙ allowed_at priorities faults at.place below.0 below.1
    ∙ ap (λ (b : Bool). b && all_allowed (drop next priorities) (drop next faults))
    (ap (λ (p : ℕ). is_allowed p (get_or faults at.place 0)) (sym c.priority_at.ensures) ∙ sym c.is_allowed.ensures)
    ) in
    sym (from_place ∙ simp c.if-not-is_allowed.true)

pub returns : goal.returns
unfolding all_allowed
returns c =
    let table = c.args.table in
    let qs = c.args.choice in
    let at = c.loop-place in
    let eight : length qs ≡ 8 = search rules in
    let none : drop at.place (priorities_of table) ≡ [] = drop_of_length-le (priorities_of table) {i = at.place} (omega (arith, length-priorities table)) in
    let none' : drop at.place qs ≡ [] = drop_of_length-le qs {i = at.place} (omega arith) in
    sym (at.invariant.1 ∙ ap₂ all_allowed none none')
