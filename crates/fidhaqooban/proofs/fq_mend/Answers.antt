-- `fidhaqooban::fq_mend` meets its contract: refused as the mended sheet is, for want of room in either output, or both written. Assumes nothing.
use Prim.Native.Nat.{ℕ, ◌≤◌}
use mathlib.Core.Path.{◌≡◌, ◌∙◌, refl, sym, ap}
use mathlib.Core.List.{List, ◌++◌}
use lib.ListN.{length, take, drop}
use Rattle.std.proofs.lemmas.List.{length-take-le}
use Rattle.std.proofs.Math.Seq.{take-length}
use Rattle.fidhaqooban.proofs.Minus.{handed}
use Rattle.fidhaqooban.proofs.Changed.{Made, made-so, not-mended, short-told, list-told, size_fits, few-changes, both_told}
use Rattle.fidhaqooban.proofs.fq_mend.Goals as goal

-- an output whose first bytes are taken from another begins with all of what is taken
is_copied : (n : ℕ) (from out : List ℕ) {put : List ℕ} → n ≤ length from → put ≡ take n from → put ++ drop n out ≡ take (length (take n from)) (take n from) ++ drop (length (take n from)) out
is_copied n from out fits is =
    ap (λ (l : List ℕ). l ++ drop n out) (is ∙ sym (take-length (take n from)))
    ∙ ap (λ (k : ℕ). take (length (take n from)) (take n from) ++ drop k out) (sym (length-take-le n from fits))

pub returns-in-Err : goal.returns-in-Err
returns-in-Err c =
    let told = not-mended c.args.sheet.now c.args.out.now c.args.changes.now c.in-Err.ensures.answer in
    record {
      answer = handed c.refused.result c.refused.type_inv ∙ c.refused.ensures ∙ told.0;
      left = told.1;
      listed = told.2;
    }

pub returns-then-out-size : goal.returns-then-out-size
returns-then-out-size c =
    let made : Made c.args.sheet.now = made-so c.args.sheet.now c.in-Ok.ensures.answer _ c.in-Ok.ensures.leaves in
    let told = short-told c.args.sheet.now c.args.out.now c.args.changes.now made refl c.if-out-size.true in
    record {
      answer = handed c.answer.result c.answer.type_inv ∙ c.answer.ensures ∙ told.0;
      left = told.1;
      listed = told.2;
    }

pub returns-then-changes-listed : goal.returns-then-changes-listed
returns-then-changes-listed c =
    let made : Made c.args.sheet.now = made-so c.args.sheet.now c.in-Ok.ensures.answer _ c.in-Ok.ensures.leaves in
    let told =
    list-told c.args.sheet.now c.args.out.now c.args.changes.now made refl c.if-out-size.false
    c.if-changes-listed.true in
    record {
      answer = handed c.answer-then-changes-listed.result c.answer-then-changes-listed.type_inv ∙ c.answer-then-changes-listed.ensures ∙ told.0;
      left = told.1;
      listed = told.2;
    }

pub slice_bounds-longest-end : goal.slice_bounds-longest-end
slice_bounds-longest-end c =
    let made : Made c.args.sheet.now = made-so c.args.sheet.now c.in-Ok.ensures.answer _ c.in-Ok.ensures.leaves in
    size_fits c.args.sheet.now c.args.out.now c.args.changes.now made refl

pub slice_bounds-copy_from_slice-end-3 : goal.slice_bounds-copy_from_slice-end-3
slice_bounds-copy_from_slice-end-3 c =
    let made : Made c.args.sheet.now = made-so c.args.sheet.now c.in-Ok.ensures.answer _ c.in-Ok.ensures.leaves in
    sym (length-take-le _ _ (size_fits c.args.sheet.now c.args.out.now c.args.changes.now made refl))

pub copy_from_slice-requires : goal.copy_from_slice-requires
copy_from_slice-requires c =
    let made : Made c.args.sheet.now = made-so c.args.sheet.now c.in-Ok.ensures.answer _ c.in-Ok.ensures.leaves in
    let fits = size_fits c.args.sheet.now c.args.out.now c.args.changes.now made refl in
    length-take-le _ c.args.out.now c.if-out-size.false ∙ sym (length-take-le _ _ fits)

pub put_changes-requires : goal.put_changes-requires
put_changes-requires c =
    let made : Made c.args.sheet.now = made-so c.args.sheet.now c.in-Ok.ensures.answer _ c.in-Ok.ensures.leaves in
    record {
      few = few-changes c.args.sheet.now c.args.out.now c.args.changes.now made refl
          (λ k. (c.type_inv.sheet k).fits);
      room = c.if-changes-listed.false;
    }

pub returns : goal.returns
returns c =
    let made : Made c.args.sheet.now = made-so c.args.sheet.now c.in-Ok.ensures.answer _ c.in-Ok.ensures.leaves in
    let fits = size_fits c.args.sheet.now c.args.out.now c.args.changes.now made refl in
    let put = is_copied c.in-Ok.mending.written _ c.args.out.now fits c.copy_from_slice.ensures.after in
    let told =
    both_told c.args.sheet.now c.args.out.now c.args.changes.now made refl c.if-out-size.false
    c.if-changes-listed.false _ put in
    record {
      answer = handed c.answer-2.result c.answer-2.type_inv ∙ c.answer-2.ensures ∙ told.0;
      left = told.1;
      listed = c.put_changes.ensures ∙ told.2;
    }
