-- `report::composing::with_signed` meets its contract: a number of 32 bits has at most ten digits. Assumes nothing.
use Prim.Native.Nat.{ℕ}
use mathlib.Core.Path.{◌≡◌, sym, ap, ◌∙◌}
use mathlib.Core.Bool.{true, false}
use mathlib.Core.List.{[], ◌∷◌}
use native.Mathlib.Omega.{arith}
use lib.IntN.{ℤ, pos, nat_abs}
use lib.Signed.{lt_z}
use Rattle.report.specs.Decimal.{decimal, signed}
use Rattle.report.specs.Putting.{put}
use Rattle.report.proofs.Decimal.{length-decimal}
use Rattle.report.proofs.Putting.{put-more, len-put}
use Rattle.report.proofs.Signs.{signed-negative, signed-not, length-signed, back, abs-small}
use Rattle.report.proofs.composing.with_signed.Goals as goal

pub with_number-requires : goal.with_number-requires
with_number-requires c =
    omega (arith, len-put _ (45 ∷ []) c.with_byte.ensures, length-decimal 9 c.magnitude.result (omega arith))

pub returns-then-number-lt0 : goal.returns-then-number-lt0
returns-then-number-lt0 c =
    let negative : lt_z c.args.number (pos 0) ≡ true = rw (back c.args.number c.ranges.number.sfits) at c.if-number-lt0.true in
    let z = c.args.number in
    let fits = c.ranges.number.sfits in
    let distance = c.magnitude.ensures.answer ∙ ap nat_abs (back z fits) in
    let text = ap (λ (n : ℕ). 45 ∷ decimal n) distance ∙ sym (signed-negative z negative) in
    let done = put-more c.args.line (45 ∷ []) _ c.with_byte.ensures c.with_number.ensures ∙ ap (put c.args.line) text in
    record {
      answer = done;
      bounded = omega (arith, len-put _ (signed z) done, length-signed z fits);
    }

pub with_number-requires-2 : goal.with_number-requires-2
with_number-requires-2 c =
    let z = c.args.number in
    let fits = c.ranges.number.sfits in
    rw (back z fits) (omega (arith, length-decimal 9 (nat_abs z) (omega (arith, abs-small z fits))))

pub returns : goal.returns
returns c =
    let not-less : lt_z c.args.number (pos 0) ≡ false = rw (back c.args.number c.ranges.number.sfits) at c.if-number-lt0.false in
    let z = c.args.number in
    let fits = c.ranges.number.sfits in
    let done = c.with_number-2.ensures ∙ ap (λ (k : ℤ). put c.args.line (decimal (nat_abs k))) (back z fits) ∙ ap (put c.args.line) (sym (signed-not z not-less)) in
    record {
      answer = done;
      bounded = omega (arith, len-put _ (signed z) done, length-signed z fits);
    }
