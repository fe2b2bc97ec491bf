-- `analysis::by_sheet::read_at` meets its contract. Assumes nothing.
use mathlib.Core.Path.{sym, ap, ◌∙◌}
use borrow.Author.Tests.{lt-ltb, le-ltb}
use Rattle.places.proofs.Refusals.{next-of}
use Rattle.places.proofs.Answered.{good_of, value_of, first_refused, ok_answered, err_answered, exit_err}
use Rattle.analysis.specs.declared.common.by_rank.Frame.{Frame}
use Rattle.analysis.proofs.Laws.BySheet.{place-after}
use Rattle.analysis.proofs.by_sheet.read_at.Goals as goal

pub returns-in_err-frame : goal.returns-in_err-frame
returns-in_err-frame c =
    let told = c.in_err-frame.ensures in
    record {
      answer = exit_err _ c.from_residual.ensures ∙ rw place-after (first_refused _ _ _ told.answer _);
      fields = told.fields;
      faults = told.faults;
      ranks = told.ranks;
    }

pub returns-then-place-frame : goal.returns-then-place-frame
returns-then-place-frame c =
    let read = c.in_ok-frame.ensures in
    let is = value_of _ _ read.answer in
    let below = rw (ap (λ (f : Frame). f.count) is) at c.if-place-frame.true in
    record {
      answer = rw place-after (ok_answered _ _ (next-of _ (good_of _ _ read.answer) ∙ simp (lt-ltb _ _ below)) is);
      fields = read.fields;
      faults = read.faults;
      ranks = read.ranks;
    }

pub returns-else-place-frame : goal.returns-else-place-frame
returns-else-place-frame c =
    let read = c.in_ok-frame.ensures in
    let above = rw (ap (λ (f : Frame). f.count) (value_of _ _ read.answer)) at c.if-place-frame.false in
    record {
      answer = rw place-after (err_answered _ _ (sym (next-of _ (good_of _ _ read.answer) ∙ simp (le-ltb _ _ above))));
      fields = read.fields;
      faults = read.faults;
      ranks = read.ranks;
    }
