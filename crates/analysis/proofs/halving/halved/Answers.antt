-- `analysis::halving::halved` meets its contract: the tasks fail the rule up to one bound and meet it at the other, which stand closer after each turn. Assumes nothing.
use Prim.Native.Nat.{◌+◌, ◌/◌}
use mathlib.Core.Path.{◌≡◌, refl, sym, ap, ◌∙◌}
use mathlib.Core.Bool.{Bool, true, false, not, true≢false}
use native.Mathlib.Omega.{arith}
use borrow.Author.Tests.{ne_eqb}
use Rattle.analysis.specs.Told.{some_of}
use Rattle.analysis.specs.ByRule.{meets}
use Rattle.analysis.proofs.Laws.Published.Halving.{half-holds, half-fails, halved-found, halved_none}
use Rattle.analysis.proofs.Laws.Interval.{met_among, halvable}
use Rattle.analysis.proofs.halving.halved.Goals as goal

-- a test that is turned round
unless : (is : Bool) → not is ≡ true → is ≡ false
unless true e = absurd (true≢false (sym e))
unless false e = refl

otherwise : (is : Bool) → not is ≡ false → is ≡ true
otherwise true e = refl
otherwise false e = absurd (true≢false e)

pub returns-then-not-meets : goal.returns-then-not-meets
unfolding some_of
returns-then-not-meets c =
    let test = met_among c.args.rule c.args.among.now in
    let known = halvable c.args.rule c.args.table c.requires.good c.args.among.now c.requires.filled c.requires.beside c.requires.framed in
    let failed : test 65535 ≡ false = sym (c.meets.ensures ∙ ap (meets c.args.rule) c.at_interval.ensures) ∙ unless c.meets.result (ap not c.if-not-meets.true) in
    sym (ap some_of (sym known.first ∙ halved_none test 65535 65535 65536 (half-fails test known.kept 65536 1 65536 known.begun 65535 (omega arith) (omega arith) failed) (omega arith) (omega arith)))

pub loop-fails-init : goal.loop-fails-init
loop-fails-init c =
    let test = met_among c.args.rule c.args.among.now in
    let known = halvable c.args.rule c.args.table c.requires.good c.args.among.now c.requires.filled c.requires.beside c.requires.framed in
    let passed : test 65535 ≡ true = sym (c.meets.ensures ∙ ap (meets c.args.rule) c.at_interval.ensures) ∙ otherwise c.meets.result (ap not c.if-not-meets.false) in
    (half-holds test known.kept 65536 1 65536 known.begun 65535 (omega arith) (omega arith) passed, omega arith)

pub overflow_add-fails : goal.overflow_add-fails
overflow_add-fails c = omega (arith, c.loop-fails.invariant.0.apart)

pub overflow_add-middle : goal.overflow_add-middle
overflow_add-middle c = omega (arith, c.loop-fails.invariant.0.apart)

pub at_interval-requires-in-loop-fails : goal.at_interval-requires-in-loop-fails
at_interval-requires-in-loop-fails c = omega (arith, c.loop-fails.invariant.0.apart)

pub loop-fails-smaller-then-meets : goal.loop-fails-smaller-then-meets
loop-fails-smaller-then-meets c = omega (arith, c.loop-fails.invariant.0.apart)

pub loop-fails-preserved-then-meets : goal.loop-fails-preserved-then-meets
loop-fails-preserved-then-meets c =
    let at = c.loop-fails in
    let known = halvable c.args.rule c.args.table c.requires.good c.args.among.now c.requires.filled c.requires.beside c.requires.framed in
    let passed = sym (c.meets-in-loop-fails.ensures ∙ ap (meets c.args.rule) c.at_interval-in-loop-fails.ensures) ∙ c.if-meets.true in
    (half-holds (met_among c.args.rule c.args.among.now) known.kept 65536 at.fails at.meets at.invariant.0 ((at.fails + at.meets) / 2) (omega arith) (omega arith) passed, omega (arith, at.invariant.0.apart, at.invariant.1))

pub loop-fails-smaller : goal.loop-fails-smaller
loop-fails-smaller c = omega (arith, c.loop-fails.invariant.0.apart)

pub loop-fails-preserved : goal.loop-fails-preserved
loop-fails-preserved c =
    let at = c.loop-fails in
    let known = halvable c.args.rule c.args.table c.requires.good c.args.among.now c.requires.filled c.requires.beside c.requires.framed in
    let failed = sym (c.meets-in-loop-fails.ensures ∙ ap (meets c.args.rule) c.at_interval-in-loop-fails.ensures) ∙ c.if-meets.false in
    (half-fails (met_among c.args.rule c.args.among.now) known.kept 65536 at.fails at.meets at.invariant.0 ((at.fails + at.meets) / 2) (omega arith) (omega arith) failed, at.invariant.1)

pub overflow_cast-result : goal.overflow_cast-result
overflow_cast-result c = omega (arith, c.loop-fails.invariant.1)

pub returns : goal.returns
unfolding some_of
returns c =
    let at = c.loop-fails in
    let known = halvable c.args.rule c.args.table c.requires.good c.args.among.now c.requires.filled c.requires.beside c.requires.framed in
    let found = sym (halved-found (met_among c.args.rule c.args.among.now) 65535 at.fails at.meets at.invariant.0 (omega arith) (omega (arith, at.invariant.1))) ∙ known.first in
    rw (← found) (simp (ne_eqb at.meets 0 (λ z. omega (arith, z, at.invariant.0.apart))))
