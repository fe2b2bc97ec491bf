-- `sheet::rules::judge_size` meets its contract: each return is a case of the rules. Assumes nothing.
use Prim.Native.Nat.{ℕ}
use mathlib.Core.Path.{◌≡◌, refl, sym, ap, ◌∙◌}
use mathlib.Core.Bool.{false}
use mathlib.Core.List.{List}
use Rattle.places.proofs.Answered.{ok_answered, err_answered}
use Rattle.sheet.specs.Rules.{outside}
use Rattle.sheet.specs.Layout.{count_of}
use Rattle.sheet.proofs.Cases.{size-1, size-2, size-3, size-good}
use Rattle.sheet.proofs.rules.judge_size.Goals as goal

pub returns-then-sheet-lt3 : goal.returns-then-sheet-lt3
returns-then-sheet-lt3 c = err_answered _ _ (size-1 c.args.sheet.now c.if-sheet-lt3.true)

pub returns-then-outside : goal.returns-then-outside
returns-then-outside c =
    let sheet1 : List ℕ = c.args.sheet.now in
    let counted : c.outside.result ≡ outside (count_of sheet1) 8 = c.outside.ensures ∙ ap (λ (n : ℕ). outside n 8) c.count-count.ensures in
    err_answered _ _ (size-2 sheet1 c.if-sheet-lt3.false (sym counted ∙ c.if-outside.true))

pub edition-edition-requires : goal.edition-edition-requires
edition-edition-requires c = c.if-sheet-lt3.false

pub returns-then-edition-gt1 : goal.returns-then-edition-gt1
returns-then-edition-gt1 c =
    let sheet1 : List ℕ = c.args.sheet.now in
    let sheet2 : List ℕ = sheet1 in
    let counted : c.outside.result ≡ outside (count_of sheet1) 8 = c.outside.ensures ∙ ap (λ (n : ℕ). outside n 8) c.count-count.ensures in
    let few : outside (count_of sheet2) 8 ≡ false = sym counted ∙ c.if-outside.false in
    err_answered _ _ (size-3 sheet2 c.if-sheet-lt3.false few (rw c.edition-edition.ensures at c.if-edition-gt1.true))

pub returns : goal.returns
returns c =
    let sheet1 : List ℕ = c.args.sheet.now in
    let sheet2 : List ℕ = sheet1 in
    let counted : c.outside.result ≡ outside (count_of sheet1) 8 = c.outside.ensures ∙ ap (λ (n : ℕ). outside n 8) c.count-count.ensures in
    let few : outside (count_of sheet2) 8 ≡ false = sym counted ∙ c.if-outside.false in
    ok_answered _ _ (sym (size-good sheet2 c.if-sheet-lt3.false few (rw c.edition-edition.ensures at c.if-edition-gt1.false))) refl
