-- `sheet::rules::judge_header` meets its contract: each return is a case of the rules. Assumes nothing.
use Prim.Native.Nat.{ℕ, ◌≤◌}
use mathlib.Core.Path.{◌≡◌, sym, ap, ap₂, ◌∙◌}
use mathlib.Core.List.{List}
use lib.ListN.{length}
use Rattle.places.proofs.Answered.{good_of, first_refused, exit_err, ok_answered, err_answered}
use Rattle.sheet.specs.Rules.{header_refusal, wrong_share, size_refusal}
use Rattle.sheet.specs.Layout.{edition_of, interval_of, round_of, share_of, header_size, start_of, size_of, said_size}
use Rattle.sheet.proofs.Cases.{GoodSize, good-size, header-1-again, header-4, header-5, header-18, header-good}
use Rattle.sheet.proofs.rules.judge_header.Goals as goal

pub returns-in_err-judge_size : goal.returns-in_err-judge_size
unfolding header_refusal
returns-in_err-judge_size c = exit_err _ c.from_residual.ensures ∙ first_refused _ _ _ c.in_err-judge_size.ensures _

pub edition-edition-requires : goal.edition-edition-requires
edition-edition-requires c =
    let sheet1 : List ℕ = c.args.sheet.now in
    let good : size_refusal sheet1 ≡ 0 = good_of _ _ c.in_ok-judge_size.ensures in
    let said : GoodSize sheet1 = good-size sheet1 good in
    said.long

pub returns-then-sheet-header_size : goal.returns-then-sheet-header_size
unfolding start_of
returns-then-sheet-header_size c =
    let sheet1 : List ℕ = c.args.sheet.now in
    let headed : c.header_size.result ≡ start_of sheet1 = c.header_size.ensures ∙ ap header_size c.edition-edition.ensures in
    let good : size_refusal sheet1 ≡ 0 = good_of _ _ c.in_ok-judge_size.ensures in
    err_answered _ _ (header-1-again _ good (rw headed at c.if-sheet-header_size.true))

pub count-count-requires : goal.count-count-requires
count-count-requires c =
    let sheet1 : List ℕ = c.args.sheet.now in
    let good : size_refusal sheet1 ≡ 0 = good_of _ _ c.in_ok-judge_size.ensures in
    let said : GoodSize sheet1 = good-size sheet1 good in
    said.long

pub returns-then-sheet-size : goal.returns-then-sheet-size
unfolding start_of
returns-then-sheet-size c =
    let sheet1 : List ℕ = c.args.sheet.now in
    let sheet2 : List ℕ = sheet1 in
    let sized : c.size.result ≡ said_size sheet2 = c.size.ensures ∙ ap₂ size_of c.edition-edition.ensures c.count-count.ensures in
    let good : size_refusal sheet1 ≡ 0 = good_of _ _ c.in_ok-judge_size.ensures in
    let headed : c.header_size.result ≡ start_of sheet1 = c.header_size.ensures ∙ ap header_size c.edition-edition.ensures in
    let header : start_of sheet2 ≤ length sheet2 = rw headed at c.if-sheet-header_size.false in
    err_answered _ _ (header-4 _ good header (λ e. c.if-sheet-size.true (e ∙ sym sized)))

pub interval-requires : goal.interval-requires
interval-requires c =
    let sheet1 : List ℕ = c.args.sheet.now in
    let good : size_refusal sheet1 ≡ 0 = good_of _ _ c.in_ok-judge_size.ensures in
    let said : GoodSize sheet1 = good-size sheet1 good in
    said.long

pub returns-then-interval-eq0 : goal.returns-then-interval-eq0
unfolding start_of
returns-then-interval-eq0 c =
    let sheet1 : List ℕ = c.args.sheet.now in
    let good : size_refusal sheet1 ≡ 0 = good_of _ _ c.in_ok-judge_size.ensures in
    let sheet2 : List ℕ = sheet1 in
    let headed : c.header_size.result ≡ start_of sheet1 = c.header_size.ensures ∙ ap header_size c.edition-edition.ensures in
    let header : start_of sheet2 ≤ length sheet2 = rw headed at c.if-sheet-header_size.false in
    let sheet3 : List ℕ = sheet2 in
    let sized : c.size.result ≡ said_size sheet2 = c.size.ensures ∙ ap₂ size_of c.edition-edition.ensures c.count-count.ensures in
    let size : length sheet3 ≡ said_size sheet3 = c.if-sheet-size.false ∙ sized in
    err_answered _ _ (header-5 _ good header size (sym c.interval.ensures ∙ c.if-interval-eq0.true))

pub round-requires : goal.round-requires
unfolding start_of
round-requires c =
    let sheet1 : List ℕ = c.args.sheet.now in
    let good : size_refusal sheet1 ≡ 0 = good_of _ _ c.in_ok-judge_size.ensures in
    let said : GoodSize sheet1 = good-size sheet1 good in
    let sheet2 : List ℕ = sheet1 in
    let headed : c.header_size.result ≡ start_of sheet1 = c.header_size.ensures ∙ ap header_size c.edition-edition.ensures in
    let header : start_of sheet2 ≤ length sheet2 = rw headed at c.if-sheet-header_size.false in
    let known = said in
    record {
      long = known.long;
      known = known.edition;
      header = header;
    }

pub share-requires : goal.share-requires
unfolding start_of
share-requires c =
    let sheet1 : List ℕ = c.args.sheet.now in
    let good : size_refusal sheet1 ≡ 0 = good_of _ _ c.in_ok-judge_size.ensures in
    let said : GoodSize sheet1 = good-size sheet1 good in
    let sheet2 : List ℕ = sheet1 in
    let headed : c.header_size.result ≡ start_of sheet1 = c.header_size.ensures ∙ ap header_size c.edition-edition.ensures in
    let header : start_of sheet2 ≤ length sheet2 = rw headed at c.if-sheet-header_size.false in
    let known = said in
    record {
      long = known.long;
      known = known.edition;
      header = header;
    }

pub returns-then-wrong_share : goal.returns-then-wrong_share
unfolding start_of
returns-then-wrong_share c =
    let sheet1 : List ℕ = c.args.sheet.now in
    let sheet2 : List ℕ = sheet1 in
    let sheet3 : List ℕ = sheet2 in
    let sheet4 : List ℕ = sheet3 in
    let shared : let s = sheet4 in c.wrong_share.result ≡ wrong_share (edition_of s) (round_of s) (share_of s) = rw (c.share.ensures, c.round.ensures, c.edition-edition.ensures) at c.wrong_share.ensures in
    let good : size_refusal sheet1 ≡ 0 = good_of _ _ c.in_ok-judge_size.ensures in
    let headed : c.header_size.result ≡ start_of sheet1 = c.header_size.ensures ∙ ap header_size c.edition-edition.ensures in
    let header : start_of sheet2 ≤ length sheet2 = rw headed at c.if-sheet-header_size.false in
    let sized : c.size.result ≡ said_size sheet2 = c.size.ensures ∙ ap₂ size_of c.edition-edition.ensures c.count-count.ensures in
    let size : length sheet3 ≡ said_size sheet3 = c.if-sheet-size.false ∙ sized in
    let some : interval_of sheet4 ≡ 0 → ⊥ = λ e. c.if-interval-eq0.false (c.interval.ensures ∙ e) in
    err_answered _ _ (header-18 _ good header size some (sym shared ∙ c.if-wrong_share.true))

pub returns : goal.returns
unfolding start_of
returns c =
    let sheet1 : List ℕ = c.args.sheet.now in
    let sheet2 : List ℕ = sheet1 in
    let sheet3 : List ℕ = sheet2 in
    let sheet4 : List ℕ = sheet3 in
    let shared : let s = sheet4 in c.wrong_share.result ≡ wrong_share (edition_of s) (round_of s) (share_of s) = rw (c.share.ensures, c.round.ensures, c.edition-edition.ensures) at c.wrong_share.ensures in
    let good : size_refusal sheet1 ≡ 0 = good_of _ _ c.in_ok-judge_size.ensures in
    let headed : c.header_size.result ≡ start_of sheet1 = c.header_size.ensures ∙ ap header_size c.edition-edition.ensures in
    let header : start_of sheet2 ≤ length sheet2 = rw headed at c.if-sheet-header_size.false in
    let sized : c.size.result ≡ said_size sheet2 = c.size.ensures ∙ ap₂ size_of c.edition-edition.ensures c.count-count.ensures in
    let size : length sheet3 ≡ said_size sheet3 = c.if-sheet-size.false ∙ sized in
    let some : interval_of sheet4 ≡ 0 → ⊥ = λ e. c.if-interval-eq0.false (c.interval.ensures ∙ e) in
    ok_answered _ _ (sym (header-good _ good header size some (sym shared ∙ c.if-wrong_share.false))) c.count-count.ensures
