-- `replay::logs::going::go_over` meets its contract: before each turn the bytes to come, from what is held so far, come to what all of them do. Assumes nothing.
use Rattle.std.proofs.Common.{ℕ, Bool, true, cond, ◌&&◌, eqb, leb, ◌≡◌, ◌+◌, ◌-◌, ◌≤◌, List, length, sym, ap, ◌∙◌, arith, rules, eqb-true, leb-true}
use Rattle.places.proofs.Tells.{both_true}
use Rattle.replay.specs.declared.Cell.{Cell}
use Rattle.replay.specs.declared.Following.{Following}
use Rattle.replay.specs.declared.logs.going.Tick.{Tick}
use Rattle.replay.specs.Ticks.Columns.{cells_shown}
use Rattle.replay.specs.Logs.Pieces.{ticked, followed}
use Rattle.replay.specs.Logs.Held.{held_in}
use Rattle.replay.proofs.OfLogs.Turned.{two-or-three, turn_on, whole-on, turns-end}
use Rattle.replay.proofs.logs.going.go_over.Goals as goal

-- what the loop's test tells
on : (is_record : Bool) (start broken width at : ℕ) (bytes : List ℕ) → width ≡ cond is_record 3 2 → at ≤ length bytes → ((eqb start 0 && eqb broken 0) && leb width (length bytes - at)) ≡ true
    → (start ≡ 0) × (broken ≡ 0) × (at + width ≤ length bytes) × (2 ≤ width)
on is_record start broken width at bytes wide within test =
    let tests = both_true _ _ test in
    let free = both_true _ _ tests.0 in
    (eqb-true _ _ free.0, eqb-true _ _ free.1, omega (arith, leb-true width (length bytes - at) tests.1), (two-or-three is_record width wide).0)

pub headway_of-headway-requires : goal.headway_of-headway-requires
headway_of-headway-requires c = c.requires.tied

pub loop-headway-init : goal.loop-headway-init
loop-headway-init c =
    (omega arith, c.requires.whole, ap (λ (f : Following). followed f c.args.bytes.now) (c.headway_of-headway.ensures.held _ c.of-columns.ensures), c.headway_of-headway.ensures.kept _)

pub overflow_sub-bytes : goal.overflow_sub-bytes
overflow_sub-bytes c = c.loop-headway.invariant.0

pub tick_at-tick-requires : goal.tick_at-tick-requires
tick_at-tick-requires c =
    let more = on c.args.following.is_record c.args.following.start c.loop-headway.headway.broken c.args.width _ _ c.requires.width c.loop-headway.invariant.0 c.loop-headway-test.true in
    record {
      two = more.3;
      there = more.2;
    }

pub turn-headway-requires : goal.turn-headway-requires
turn-headway-requires c =
    let inv = c.loop-headway.invariant in
    let more = on c.args.following.is_record c.args.following.start c.loop-headway.headway.broken c.args.width _ _ c.requires.width c.loop-headway.invariant.0 c.loop-headway-test.true in
    record {
      good = more.0;
      free = more.1;
      kept = inv.3;
    }

pub overflow_add-at : goal.overflow_add-at
overflow_add-at c =
    let more = on c.args.following.is_record c.args.following.start c.loop-headway.headway.broken c.args.width _ _ c.requires.width c.loop-headway.invariant.0 c.loop-headway-test.true in
    search rules

pub loop-headway-smaller : goal.loop-headway-smaller
loop-headway-smaller c =
    let more = on c.args.following.is_record c.args.following.start c.loop-headway.headway.broken c.args.width _ _ c.requires.width c.loop-headway.invariant.0 c.loop-headway-test.true in
    omega (arith, more.2, more.3)

pub loop-headway-preserved : goal.loop-headway-preserved
loop-headway-preserved c =
    let loop = c.loop-headway in
    let given = c.args in
    let more = (on c.args.following.is_record c.args.following.start c.loop-headway.headway.broken c.args.width _ _ c.requires.width c.loop-headway.invariant.0 c.loop-headway-test.true).2 in
    let cells = cells_shown loop.columns in
    let turned = c.turn-headway.ensures in (
      more,
      whole-on given.following cells loop.headway given.width c.requires.width given.bytes.now loop.at more loop.invariant.1,
      turn_on given.following cells loop.headway given.width c.requires.width given.bytes.now loop.at more _ (turned.turn ∙ ap (λ (t : Tick). ticked (held_in given.following cells loop.headway) t.releases t.faults t.ran) c.tick_at-tick.ensures) ∙ loop.invariant.2,
      turned.kept,
    )

pub returns : goal.returns
returns c =
    let loop = c.loop-headway in
    let given = c.args in
    let cells = cells_shown loop.columns in
    c.kept.ensures ∙ ap (λ (l : List Cell). held_in given.following l loop.headway) c.cells.ensures
    ∙ sym (turns-end given.following cells loop.headway given.width c.requires.width given.bytes.now loop.at loop.invariant.1 c.loop-headway-test.false) ∙ loop.invariant.2
