-- `sheet::read_ranked` meets its contract: refused, what is lent is as it was; else the records are put by rank. Assumes nothing.
use Prim.Native.Nat.{ℕ}
use mathlib.Core.Path.{◌≡◌, ap, ◌∙◌}
use mathlib.Core.Bool.{cond}
use mathlib.Core.List.{List}
use borrow.Author.Tests.{ne_eqb}
use lib.Dec.{eqb}
use Rattle.places.proofs.Answered.{good_of, value_of, broken_of, passed_on, ok_answered, exit_err}
use Rattle.sheet.specs.Layout.{count_of, sheet_record}
use Rattle.sheet.specs.Columns.{columns_below, faults_below, ranks_below}
use Rattle.sheet.specs.Rules.{sheet_refusal}
use Rattle.sheet.specs.Answers.{ranked_answer, columns_left, faults_left, ranks_left}
use Rattle.sheet.proofs.Cases.{good-sheet}
use Rattle.sheet.proofs.read_ranked.Goals as goal

-- what was put by the count that was read is what a good sheet leaves
filled : (s before : List ℕ) {left : List ℕ} {count : ℕ} (put : ℕ → List ℕ) → sheet_refusal s ≡ 0 → count ≡ count_of s → left ≡ put count → left ≡ cond (eqb (sheet_refusal s) 0) (put (count_of s)) before
filled s before put good counted is = simp good (is ∙ ap put counted)

pub returns-in_err-count : goal.returns-in_err-count
unfolding ranked_answer columns_left faults_left ranks_left
returns-in_err-count c =
    let said = c.in_err-count.ensures in
    let broken = ne_eqb (sheet_refusal c.args.sheet.now) 0 (broken_of _ _ said) in
    record {
      answer = exit_err _ c.from_residual.ensures ∙ passed_on _ _ _ said;
      fields = simp broken;
      faults = simp broken;
      ranks = simp broken;
    }

pub put_ranked-requires : goal.put_ranked-requires
put_ranked-requires c =
    let good = good-sheet c.args.sheet.now (good_of _ _ c.in_ok-count.ensures) in
    rw (value_of _ _ c.in_ok-count.ensures) record { few = good.0.count.1; sized = good.0.size; good = good.1 }

pub interval-requires : goal.interval-requires
interval-requires c = (good-sheet _ (good_of _ _ c.in_ok-count.ensures)).0.long

pub round-requires : goal.round-requires
round-requires c =
    let good = (good-sheet c.args.sheet.now (good_of _ _ c.in_ok-count.ensures)).0 in
    record { long = good.long; known = good.edition; header = good.header }

pub share-requires : goal.share-requires
share-requires c =
    let good = (good-sheet c.args.sheet.now (good_of _ _ c.in_ok-count.ensures)).0 in
    record { long = good.long; known = good.edition; header = good.header }

pub returns : goal.returns
unfolding columns_left faults_left ranked_answer ranks_left
returns c =
    let good = good_of _ _ c.in_ok-count.ensures in
    let counted = value_of _ _ c.in_ok-count.ensures in
    let given = c.args in
    let at = sheet_record given.sheet.now in
    record {
      answer = ok_answered _ _ good (simp (good, c.share.ensures, c.round.ensures, c.interval.ensures, counted));
      fields = filled given.sheet.now given.columns.now (λ n. columns_below n at given.columns.now n) good counted c.put_ranked.ensures.fields;
      faults = filled given.sheet.now given.faults.now (λ n. faults_below n at given.faults.now n) good counted c.put_ranked.ensures.faults;
      ranks = filled given.sheet.now given.ranks.now (λ n. ranks_below n at given.ranks.now n) good counted c.put_ranked.ensures.ranks;
    }
