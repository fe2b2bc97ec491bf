-- `sheet::judge_figures` meets its contract: each return is a case of the rules. Assumes nothing.
use Prim.Native.Nat.{ℕ}
use mathlib.Core.Path.{◌≡◌, refl, sym, ap, ◌∙◌}
use mathlib.Core.Bool.{false}
use Rattle.places.proofs.Answered.{ok_answered, err_answered}
use Rattle.sheet.specs.declared.Table.{Table}
use Rattle.sheet.specs.Layout.{table_edition}
use Rattle.sheet.specs.Rules.{outside, wrong_share}
use Rattle.sheet.proofs.Cases.{figures-2, figures-5, figures-18, figures-good}
use Rattle.sheet.proofs.judge_figures.Goals as goal

pub returns-then-outside : goal.returns-then-outside
returns-then-outside c = err_answered _ _ (figures-2 c.args.table (sym c.outside.ensures ∙ c.if-outside.true))

pub returns-then-table-eq0 : goal.returns-then-table-eq0
returns-then-table-eq0 c =
    let table1 : Table = c.args.table in
    let counted : outside table1.count 8 ≡ false = sym c.outside.ensures ∙ c.if-outside.false in
    err_answered _ _ (figures-5 table1 counted c.if-table-eq0.true)

pub returns-then-wrong_share : goal.returns-then-wrong_share
returns-then-wrong_share c =
    let table1 : Table = c.args.table in
    let table2 : Table = table1 in
    let counted : outside table1.count 8 ≡ false = sym c.outside.ensures ∙ c.if-outside.false in
    let shared : let t = table2 in c.wrong_share.result ≡ wrong_share (table_edition t) t.round t.share = (
    let t = table2 in
    c.wrong_share.ensures ∙ ap (λ (e : ℕ). wrong_share e t.round t.share) c.edition_for-edition.ensures
    ) in
    err_answered _ _ (figures-18 table2 counted c.if-table-eq0.false (sym shared ∙ c.if-wrong_share.true))

pub returns : goal.returns
returns c =
    let table1 : Table = c.args.table in
    let table2 : Table = table1 in
    let counted : outside table1.count 8 ≡ false = sym c.outside.ensures ∙ c.if-outside.false in
    let shared : let t = table2 in c.wrong_share.result ≡ wrong_share (table_edition t) t.round t.share = (
    let t = table2 in
    c.wrong_share.ensures ∙ ap (λ (e : ℕ). wrong_share e t.round t.share) c.edition_for-edition.ensures
    ) in
    ok_answered _ _ (sym (figures-good table2 counted c.if-table-eq0.false (sym shared ∙ c.if-wrong_share.false))) refl
