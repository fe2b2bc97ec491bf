-- `margins::searching::found` meets its contract: the table holds up to one step and not at another, which stand closer after each turn. Assumes nothing.
use Prim.Native.Nat.{ℕ, ◌+◌, ◌/◌}
use mathlib.Core.Path.{◌≡◌, sym, ap, ◌∙◌, subst}
use mathlib.Core.Bool.{not}
use native.Mathlib.Omega.{arith}
use borrow.Author.Tests.{ne_eqb}
use Rattle.analysis.specs.Told.{some_of}
use Rattle.analysis.proofs.Laws.ByRule.{rule-good}
use Rattle.analysis.proofs.Laws.Published.Halving.{Between, half-holds, half-fails}
use Rattle.sheet.proofs.Cases.{good-table}
use Rattle.margins.specs.Margins.{holds_with, last_of}
use Rattle.margins.specs.Fitted.{value_at}
use Rattle.margins.proofs.Stepped.{fails_at, fails-kept, last_some, margin-none, begun, margin-found, room_small}
use Rattle.margins.proofs.searching.found.Goals as goal

pub last_of-last-requires : goal.last_of-last-requires
last_of-last-requires c = record {
  few = (good-table c.args.table (rule-good c.args.rule c.args.table c.requires.good)).count.1;
  placed = c.requires.placed;
}

pub holds_at-requires : goal.holds_at-requires
holds_at-requires c =
    let t = c.args.table in
    let some = last_some c.args.rule t (rule-good c.args.rule t c.requires.good) c.args.change c.requires.placed in
    record {
      good = c.requires.good;
      room = c.last_of-last.ensures.1;
      within = (omega arith, omega (arith, c.last_of-last.ensures.0, some));
    }

pub returns-then-not-holds_at : goal.returns-then-not-holds_at
unfolding some_of
returns-then-not-holds_at c =
    let rule = c.args.rule in
    let t = c.args.table in
    let change = c.args.change in
    ap some_of
    (margin-none rule t (rule-good rule t c.requires.good) change
    (ap not (sym (c.holds_at.ensures ∙ ap (λ (n : ℕ). holds_with rule t change (value_at change n 1)) c.last_of-last.ensures.0)) ∙ (ap not c.if-not-holds_at.true)))

pub overflow_add-fails : goal.overflow_add-fails
overflow_add-fails c = omega (arith, room_small c.args.change c.last_of-last.result c.last_of-last.ensures.1)

pub loop-holds-init : goal.loop-holds-init
loop-holds-init c =
    let rule = c.args.rule in
    let t = c.args.table in
    let change = c.args.change in
    let last = c.last_of-last.ensures.0 in
    let first = ap not (sym (c.holds_at.ensures ∙ ap (λ (n : ℕ). holds_with rule t change (value_at change n 1)) last)) ∙ (ap not c.if-not-holds_at.false) in
    let end : 1 + last_of t change ≡ c.last_of-last.result + 1 = omega (arith, last) in
    subst (λ (n : ℕ). Between (fails_at rule t change) (1 + last_of t change) 1 n) end (begun rule t (rule-good rule t c.requires.good) change c.requires.placed first)

pub overflow_add-holds : goal.overflow_add-holds
overflow_add-holds c =
    let last = c.last_of-last in
    omega (arith, c.loop-holds.invariant.apart, last.ensures.0, room_small c.args.change last.result last.ensures.1)

pub overflow_add-middle : goal.overflow_add-middle
overflow_add-middle c =
    let last = c.last_of-last in
    omega (arith, c.loop-holds.invariant.apart, last.ensures.0, room_small c.args.change last.result last.ensures.1)

pub holds_at-requires-in-loop-holds : goal.holds_at-requires-in-loop-holds
holds_at-requires-in-loop-holds c =
    let at = c.loop-holds in
    let last = c.last_of-last in
    record {
      good = c.requires.good;
      room = last.ensures.1;
      within = (omega (arith, at.invariant.apart), omega (arith, at.invariant.apart, last.ensures.0, c.loop-holds-test.true));
    }

pub loop-holds-smaller-then-holds_at : goal.loop-holds-smaller-then-holds_at
loop-holds-smaller-then-holds_at c = omega (arith, c.loop-holds.invariant.apart)

pub loop-holds-preserved-then-holds_at : goal.loop-holds-preserved-then-holds_at
loop-holds-preserved-then-holds_at c =
    let at = c.loop-holds in
    let last = c.last_of-last in
    let rule = c.args.rule in
    let t = c.args.table in
    let change = c.args.change in
    let middle = (at.holds + at.fails) / 2 in
    let is = ap not (sym (c.holds_at-in-loop-holds.ensures ∙ ap (λ (n : ℕ). holds_with rule t change (value_at change n middle)) last.ensures.0) ∙ c.if-holds_at.true) in
    half-fails (fails_at rule t change) (fails-kept rule t (rule-good rule t c.requires.good) change) (1 + last_of t change) at.holds at.fails at.invariant middle (omega arith) (omega arith) is

pub loop-holds-smaller : goal.loop-holds-smaller
loop-holds-smaller c = omega (arith, c.loop-holds.invariant.apart)

pub loop-holds-preserved : goal.loop-holds-preserved
loop-holds-preserved c =
    let at = c.loop-holds in
    let last = c.last_of-last in
    let rule = c.args.rule in
    let t = c.args.table in
    let change = c.args.change in
    let middle = (at.holds + at.fails) / 2 in
    let is = ap not (sym (c.holds_at-in-loop-holds.ensures ∙ ap (λ (n : ℕ). holds_with rule t change (value_at change n middle)) last.ensures.0) ∙ c.if-holds_at.false) in
    half-holds (fails_at rule t change) (fails-kept rule t (rule-good rule t c.requires.good) change) (1 + last_of t change) at.holds at.fails at.invariant middle (omega arith) (omega arith) is

pub value_at-requires : goal.value_at-requires
value_at-requires c =
    let last = c.last_of-last in
    record {
      room = room_small c.args.change last.result last.ensures.1;
      within = (c.loop-holds.invariant.apart.0, omega (arith, c.loop-holds.invariant.apart, last.ensures.0));
    }

pub returns : goal.returns
unfolding some_of
returns c =
    let at = c.loop-holds in
    let last = c.last_of-last in
    let rule = c.args.rule in
    let t = c.args.table in
    let change = c.args.change in
    let found = c.value_at.ensures.same ∙ ap (λ (n : ℕ). value_at change n at.holds) last.ensures.0
    ∙ margin-found rule t (rule-good rule t c.requires.good) change at.holds at.fails at.invariant (omega arith) in
    rw (← found) (simp (ne_eqb c.value_at.result 0 (λ zero. omega (arith, zero, c.value_at.ensures.some))))
