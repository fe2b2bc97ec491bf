-- `sheet::write` meets its contract: refused, the output is as it was; else it starts with the sheet. Assumes nothing.
use Prim.Native.Nat.{ℕ, ◌<◌}
use mathlib.Core.Path.{◌≡◌, sym, ap, subst, ◌∙◌}
use lib.ListN.{length}
use borrow.Author.Tests.{ne_eqb}
use Rattle.places.proofs.Answered.{good_of, broken_of, first_refused, ok_answered, err_answered, exit_err}
use Rattle.sheet.specs.Layout.{table_size, size_of}
use Rattle.sheet.specs.Answers.{write_refusal, write_answer, write_leaves}
use Rattle.sheet.proofs.Cases.{write-refused, write-short, write-fits}
use Rattle.sheet.proofs.write.Goals as goal

pub returns-in_err-judge_table : goal.returns-in_err-judge_table
unfolding write_answer write_refusal write_leaves
returns-in_err-judge_table c =
    let told = c.in_err-judge_table.ensures in
    let refused = broken_of _ _ told in
    record {
      answer = exit_err _ c.from_residual.ensures ∙ first_refused _ _ _ told _;
      leaves = simp (write-refused c.args.table c.args.out.now refused, ne_eqb _ 0 refused);
    }

pub returns-then-out-size : goal.returns-then-out-size
unfolding table_size write_answer write_leaves
returns-then-out-size c =
    let good = good_of _ _ c.in_ok-judge_table.ensures in
    let sized : c.size-size.result ≡ table_size c.args.table = c.size-size.ensures ∙ ap (λ (e : ℕ). size_of e c.args.table.count) c.edition_for-edition.ensures in
    let refusal = write-short c.args.table c.args.out.now good (subst (λ (n : ℕ). length c.args.out.now < n) sized c.if-out-size.true) in
    record { answer = err_answered _ _ (sym refusal); leaves = simp refusal }

pub put_sheet-requires : goal.put_sheet-requires
unfolding table_size
put_sheet-requires c =
    let sized : c.size-size.result ≡ table_size c.args.table = c.size-size.ensures ∙ ap (λ (e : ℕ). size_of e c.args.table.count) c.edition_for-edition.ensures in
    record {
      good = good_of _ _ c.in_ok-judge_table.ensures;
      room = rw sized at c.if-out-size.false;
    }

pub shape_of-out : goal.shape_of-out
shape_of-out c = c.put_sheet.auto.out

pub returns : goal.returns
unfolding table_size write_answer write_leaves
returns c =
    let good = good_of _ _ c.in_ok-judge_table.ensures in
    let sized : c.size-size.result ≡ table_size c.args.table = c.size-size.ensures ∙ ap (λ (e : ℕ). size_of e c.args.table.count) c.edition_for-edition.ensures in
    let refusal = write-fits c.args.table c.args.out.now good (rw sized at c.if-out-size.false) in
    record {
      answer = ok_answered _ _ refusal (simp (refusal, sized));
      leaves = simp refusal c.put_sheet.ensures;
    }
