-- `mend::mend` meets its contract: refused by the header, by the mended records or for want of room, or written and listed. Assumes nothing.
use mathlib.Core.Path.{sym, ◌∙◌}
use lib.Seq.{length-take-le}
use Rattle.places.proofs.Answered.{exit_err}
use Rattle.mend.proofs.Answered.{header-told, Course, course-few, course-refused, course-mended}
use Rattle.mend.proofs.mend.Goals as goal

pub slice_bounds-read_unjudged-end : goal.slice_bounds-read_unjudged-end
slice_bounds-read_unjudged-end c = sym (length-take-le _ _ c.kept-end.ensures.inside)

pub returns-in_err-table : goal.returns-in_err-table
returns-in_err-table c =
    let told = header-told c.args.sheet.now c.args.out.now (λ k. (c.type_inv.sheet k).fits) c.kept-end.result c.kept-end.ensures.kept c.in_err-table.ensures in
    record { answer = exit_err _ c.from_residual.ensures ∙ told.0; leaves = told.1 }

pub returns-in_err-written : goal.returns-in_err-written
returns-in_err-written c =
    let course : Course c.args.sheet.now c.args.out.now =
    record {
      byte = λ k. (c.type_inv.sheet k).fits;
      end = c.kept-end.result;
      ends = c.kept-end.ensures.kept;
      typed = c.in_ok-table.table;
      reads = c.in_ok-table.ensures;
      table = c.mended_table.result;
      mends = c.mended_table.ensures;
      left = _;
      leaves = c.in_err-written.ensures.leaves;
    }
    in
    let told = course-refused course c.in_err-written.ensures.answer in
    record { answer = exit_err _ c.from_residual-in_err-written.ensures ∙ told.0; leaves = told.1 }

pub changes_of-changes-requires : goal.changes_of-changes-requires
changes_of-changes-requires c =
    let course : Course c.args.sheet.now c.args.out.now =
    record {
      byte = λ k. (c.type_inv.sheet k).fits;
      end = c.kept-end.result;
      ends = c.kept-end.ensures.kept;
      typed = c.in_ok-table.table;
      reads = c.in_ok-table.ensures;
      table = c.mended_table.result;
      mends = c.mended_table.ensures;
      left = _;
      leaves = c.in_ok-written.ensures.leaves;
    }
    in
    course-few course

pub returns : goal.returns
returns c =
    let course : Course c.args.sheet.now c.args.out.now =
    record {
      byte = λ k. (c.type_inv.sheet k).fits;
      end = c.kept-end.result;
      ends = c.kept-end.ensures.kept;
      typed = c.in_ok-table.table;
      reads = c.in_ok-table.ensures;
      table = c.mended_table.result;
      mends = c.mended_table.ensures;
      left = _;
      leaves = c.in_ok-written.ensures.leaves;
    }
    in
    let told = course-mended course c.in_ok-written.ensures.answer c.changes_of-changes.ensures in
    record { answer = told.0; leaves = told.1 }
