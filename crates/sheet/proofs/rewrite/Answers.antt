-- `sheet::rewrite` meets its contract: refused, the output is as it was; else it starts with the sheet. Assumes nothing.
use Prim.Native.Nat.{ℕ, ◌≤◌, ◌<◌}
use mathlib.Core.Path.{◌≡◌, sym, ap, ap₂, ◌∙◌}
use mathlib.Core.Bool.{cond}
use mathlib.Core.List.{List, ◌++◌}
use native.Mathlib.Omega.{arith}
use lib.Dec.{ltb}
use lib.ListN.{length, drop}
use borrow.Author.Tests.{ne_eqb, lt-ltb, le-ltb}
use Rattle.places.proofs.Refusals.{first_of, next-of}
use Rattle.places.proofs.Answered.{broken_of, first_refused, ok_answered, err_answered, exit_err}
use Rattle.sheet.specs.declared.Table.{Table}
use Rattle.sheet.specs.Layout.{table_of, table_size, sheet_of}
use Rattle.sheet.specs.Rules.{sheet_refusal}
use Rattle.sheet.specs.Answers.{read_answer, rewrite_refusal, rewrite_answer, rewrite_leaves}
use Rattle.sheet.proofs.Spelled.{Bytes}
use Rattle.sheet.proofs.Cases.{good-sheet}
use Rattle.sheet.proofs.Return.{size-kept, sheet-kept}
use Rattle.sheet.proofs.Demands.{table-good}
use Rattle.sheet.proofs.Told.{read-told}
use Rattle.sheet.proofs.rewrite.Goals as goal

-- the refusal where the sheet is good
module _ (s out : List ℕ) (good : sheet_refusal s ≡ 0) where
  room-refused : length out < length s → rewrite_refusal s out ≡ 11
  unfolding rewrite_refusal
  room-refused short = next-of (cond (ltb (length out) (length s)) 11 0) good ∙ simp (lt-ltb (length out) (length s) short)

  none-refused : length s ≤ length out → rewrite_refusal s out ≡ 0
  unfolding rewrite_refusal
  none-refused room = next-of (cond (ltb (length out) (length s)) 11 0) good ∙ simp (le-ltb (length out) (length s) room)

pub returns-in_err-table : goal.returns-in_err-table
unfolding read_answer rewrite_answer rewrite_refusal rewrite_leaves
returns-in_err-table c =
    let told = c.in_err-table.ensures in
    let broken = broken_of _ _ told in
    record {
      answer = exit_err _ c.from_residual.ensures ∙ first_refused _ _ _ told _;
      leaves = simp (first_of (sheet_refusal c.args.sheet.now) (cond (ltb (length c.args.out.now) (length c.args.sheet.now)) 11 0) broken, ne_eqb (sheet_refusal c.args.sheet.now) 0 broken);
    }

pub returns-then-out-sheet : goal.returns-then-out-sheet
unfolding rewrite_answer rewrite_leaves
returns-then-out-sheet c =
    let refusal = room-refused c.args.sheet.now c.args.out.now (read-told _ c.in_ok-table.ensures).0 c.if-out-sheet.true in
    record { answer = err_answered _ _ (sym refusal); leaves = simp refusal }

pub put_sheet-requires : goal.put_sheet-requires
put_sheet-requires c =
    let lent : List ℕ = c.args.sheet.now in
    let told = read-told lent c.in_ok-table.ensures in
    let sized : length lent ≡ table_size (table_of lent) = size-kept lent (good-sheet lent told.0).0 in
    record {
      good = rw told.1 (table-good lent told.0);
      room = rw (told.1, ← sized) c.if-out-sheet.false;
    }

pub returns : goal.returns
unfolding rewrite_answer rewrite_leaves
returns c =
    let lent : List ℕ = c.args.sheet.now in
    let out = c.args.out.now in
    let told = read-told lent c.in_ok-table.ensures in
    let header = (good-sheet lent told.0).0 in
    let byte : Bytes lent = λ k. omega (arith, c.type_inv.sheet k) in
    let refusal = none-refused lent out told.0 c.if-out-sheet.false in
    let put = c.put_sheet.ensures ∙ ap (λ (t : Table). sheet_of t ++ drop (table_size t) out) told.1
    ∙ ap₂ (λ (l : List ℕ) (n : ℕ). l ++ drop n out) (sheet-kept lent byte header) (sym (size-kept lent header)) in
    record {
      answer = ok_answered _ _ refusal (simp refusal);
      leaves = put ∙ simp refusal;
    }
