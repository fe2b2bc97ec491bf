-- `reasons::counting::tasks_of` meets its contract: the room is filled place by place. Assumes nothing.
use Prim.Native.Nat.{ℕ}
use mathlib.Core.Path.{◌≡◌, ap, ◌∙◌}
use native.Mathlib.Omega.{arith}
use lib.ListN.{replicate}
use Rattle.places.specs.Places.{filled_below}
use Rattle.places.proofs.Turns.{fill-turn}
use Rattle.sheet.specs.Layout.{record_at}
use Rattle.sheet.proofs.Cases.{good-table}
use Rattle.analysis.specs.Common.Entries.{own_tasks}
use Rattle.reasons.specs.declared.Term.{Term}
use Rattle.reasons.specs.Terms.{task_term, no_term, task_terms}
use Rattle.reasons.proofs.counting.tasks_of.Goals as goal

pub loop-other-init : goal.loop-other-init
unfolding filled_below
loop-other-init c = (omega arith, ap (λ (t : Term). replicate 8 t) c.no_term-tasks.ensures)

pub times_of-requires : goal.times_of-requires
times_of-requires c =
    record {
      good = c.requires.good;
      here = c.requires.here;
      there = c.loop-other-test.true;
      short = c.requires.short;
    }

pub offset_bounds-table-other : goal.offset_bounds-table-other
offset_bounds-table-other c =
    omega (arith, (good-table c.args.table c.requires.good).count.1)

pub bounds-table-other : goal.bounds-table-other
bounds-table-other c =
    omega (arith, (good-table c.args.table c.requires.good).count.1)

pub offset_bounds-tasks-other : goal.offset_bounds-tasks-other
offset_bounds-tasks-other c =
    omega (arith, (good-table c.args.table c.requires.good).count.1)

pub bounds-tasks-other : goal.bounds-tasks-other
bounds-tasks-other c =
    omega (arith, (good-table c.args.table c.requires.good).count.1)

pub loop-other-preserved : goal.loop-other-preserved
unfolding record_at
loop-other-preserved c =
    let at = c.loop-other in
    let args = c.args in
    (omega arith, fill-turn (task_term args.equation (own_tasks args.table) args.place args.length) (replicate 8 no_term) at.invariant.1 (ap (λ (n : ℕ). record { times = n; ticks = (record_at args.table.records at.other).cost }) c.times_of.ensures))

pub returns : goal.returns
unfolding task_terms
returns c =
    let at = c.loop-other in
    let args = c.args in
    let all : at.other ≡ args.table.count = omega arith in
    at.invariant.1 ∙ ap (λ (n : ℕ). filled_below (task_term args.equation (own_tasks args.table) args.place args.length) n (replicate 8 no_term)) all
