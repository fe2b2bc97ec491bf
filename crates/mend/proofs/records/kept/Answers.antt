-- `mend::records::kept` meets its contract. Assumes nothing.
use Prim.Native.Nat.{ℕ}
use mathlib.Core.Path.{◌≡◌, ◌∙◌}
use mathlib.Core.List.{List}
use native.Mathlib.Omega.{arith}
use borrow.Author.Rules.{rules}
use Rattle.std.specs.Prelude.{Ok}
use Rattle.places.specs.Answered.{answered}
use Rattle.places.proofs.Answered.{good_of, value_of, broken_of}
use Rattle.sheet.specs.Layout.{said_size}
use Rattle.sheet.specs.Rules.{size_refusal}
use Rattle.sheet.specs.Answers.{size_answer}
use Rattle.mend.proofs.Complete.{kept-unknown, kept-cut, kept_whole}
use Rattle.mend.proofs.records.kept.Goals as goal

-- what the header was found to say
size-told : (s : List ℕ) {size : ℕ} → Ok size ≡ answered (size_answer s).refusal (size_answer s).size → (size_refusal s ≡ 0) × (size ≡ said_size s)
unfolding size_answer
size-told s is = let good = good_of _ _ is in (good, value_of _ _ is ∙ simp good)

pub returns-in-Err : goal.returns-in-Err
unfolding size_answer
returns-in-Err c = record { kept = kept-unknown c.args.sheet.now (broken_of _ _ c.in-Err.ensures); inside = search rules }

pub returns-then-size-whole : goal.returns-then-size-whole
returns-then-size-whole c =
    let told = size-told c.args.sheet.now c.in-Ok.ensures in
    record { kept = told.1 ∙ kept-cut _ told.0 (omega (arith, told.1, c.if-size-whole.true)); inside = omega arith }

pub returns-else-size-whole : goal.returns-else-size-whole
returns-else-size-whole c =
    let told = size-told c.args.sheet.now c.in-Ok.ensures in
    record { kept = kept_whole c.args.sheet.now (omega (arith, told.1, c.if-size-whole.false)); inside = search rules }
