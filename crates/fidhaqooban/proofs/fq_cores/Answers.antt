-- `fidhaqooban::fq_cores` meets its contract. Assumes nothing.
use Prim.Native.Nat.{ℕ}
use mathlib.Core.Path.{sym, ap, ◌∙◌}
use mathlib.Core.List.{◌++◌}
use native.Mathlib.Omega.{arith}
use lib.ListN.{take, drop}
use Rattle.std.specs.Prelude.{Ok}
use Rattle.fidhaqooban.proofs.Minus.{handed}
use Rattle.fidhaqooban.proofs.Settled.{settled-refused, settled-none, settled-good, settled-short, settled-all}
use Rattle.fidhaqooban.proofs.fq_cores.Goals as goal

pub count-count-requires : goal.count-count-requires
count-count-requires c =
    let start = c.args in
    settled-good start.sheet.now start.number start.out.now (ap Ok (sym c.in-Everyone.is) ∙ c.in-Ok.ensures)

pub returns-then-out-count : goal.returns-then-out-count
returns-then-out-count c =
    let start = c.args in
    let settled = settled-short start.sheet.now start.number start.out.now (ap Ok (sym c.in-Everyone.is) ∙ c.in-Ok.ensures) (omega (arith, c.count-count.ensures.answer, c.if-out-count.true)) in
    record {
      answer = handed c.answer-then-out-count.result c.answer-then-out-count.type_inv ∙ c.answer-then-out-count.ensures ∙ settled.0;
      left = settled.1;
    }

pub returns-in-Err : goal.returns-in-Err
returns-in-Err c =
    let start = c.args in
    let settled = settled-refused start.sheet.now start.number start.out.now c.in-Err.ensures in
    record {
      answer = handed c.refused.result c.refused.type_inv ∙ c.refused.ensures ∙ settled.0;
      left = settled.1;
    }

pub returns-in-FitsNone : goal.returns-in-FitsNone
returns-in-FitsNone c =
    let start = c.args in
    let settled = settled-none start.sheet.now start.number start.out.now (ap Ok (sym c.in-FitsNone.is) ∙ c.in-Ok.ensures) in
    record {
      answer = handed c.answer.result c.answer.type_inv ∙ c.answer.ensures ∙ settled.0;
      left = settled.1;
    }

pub returns-else-out-count : goal.returns-else-out-count
returns-else-out-count c =
    let start = c.args in
    let size = c.count-count.ensures.answer in
    let settled = settled-all start.sheet.now start.number start.out.now (ap Ok (sym c.in-Everyone.is) ∙ c.in-Ok.ensures) (omega (arith, size, c.if-out-count.false)) in
    record {
      answer = handed c.answer-in-Everyone.result c.answer-in-Everyone.type_inv ∙ c.answer-in-Everyone.ensures ∙ settled.0;
      left = c.put_cores.ensures ∙ ap (λ (n : ℕ). take n c.in-Everyone.cores ++ drop n start.out.now) size ∙ settled.1;
    }
