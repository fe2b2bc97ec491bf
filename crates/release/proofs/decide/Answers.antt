-- `release::decide` meets its contract. Assumes nothing.
use Prim.Native.Nat.{ℕ}
use mathlib.Core.Path.{◌≡◌, ap, ap₂, ◌∙◌}
use mathlib.Core.List.{List}
use borrow.Author.Tests.{ne_eqb}
use Rattle.places.specs.Answered.{answered}
use Rattle.places.proofs.Answered.{broken_of, passed_as, exit_err}
use Rattle.sheet.specs.declared.Table.{Table}
use Rattle.sheet.specs.Layout.{table_of}
use Rattle.sheet.specs.Rules.{sheet_refusal}
use Rattle.sheet.specs.Answers.{read_answer}
use Rattle.sheet.proofs.Told.{read-told}
use Rattle.release.specs.Told.{Decision}
use Rattle.release.specs.Answers.{decided, decision}
use Rattle.release.proofs.Said.{table-read}
use Rattle.release.proofs.decide.Goals as goal

-- the refusal of the sheet in use comes first, then that of the candidate
module _ (in_use candidate : List ℕ) (protected : ℕ) where
  first-refused : (sheet_refusal in_use ≡ 0 → ⊥) → sheet_refusal in_use ≡ (decision in_use candidate protected).refusal
  unfolding decision
  first-refused broken = simp (ne_eqb (sheet_refusal in_use) 0 broken)

  next-refused : sheet_refusal in_use ≡ 0 → (sheet_refusal candidate ≡ 0 → ⊥) → sheet_refusal candidate ≡ (decision in_use candidate protected).refusal
  unfolding decision
  next-refused good broken = simp (good, ne_eqb (sheet_refusal candidate) 0 broken)

  then-decided : sheet_refusal in_use ≡ 0 → sheet_refusal candidate ≡ 0 → decided (table_of in_use) (table_of candidate) protected ≡ decision in_use candidate protected
  unfolding decision
  then-decided old new = simp (old, new)

pub returns-in_err-old : goal.returns-in_err-old
unfolding read_answer
returns-in_err-old c =
    let told = c.in_err-old.ensures in
    exit_err _ c.from_residual.ensures ∙ passed_as _ _ _ told (first-refused c.args.in_use.now c.args.candidate.now c.args.protected (broken_of _ _ told))

pub returns-in_err-new : goal.returns-in_err-new
unfolding read_answer
returns-in_err-new c =
    let told = c.in_err-new.ensures in
    let old = (read-told c.args.in_use.now c.in_ok-old.ensures).0 in
    exit_err _ c.from_residual-in_err-new.ensures ∙ passed_as _ _ _ told (next-refused c.args.in_use.now c.args.candidate.now c.args.protected old (broken_of _ _ told))

pub between-requires : goal.between-requires
between-requires c = record { good_old = table-read c.args.in_use.now c.in_ok-old.ensures; good_new = table-read c.args.candidate.now c.in_ok-new.ensures }

pub returns : goal.returns
returns c =
    let old = read-told c.args.in_use.now c.in_ok-old.ensures in
    let new = read-told c.args.candidate.now c.in_ok-new.ensures in
    c.between.ensures
    ∙ ap (λ (d : Decision). answered d.refusal d.loads) (ap₂ (λ (a b : Table). decided a b c.args.protected) old.1 new.1 ∙ then-decided c.args.in_use.now c.args.candidate.now c.args.protected old.0 new.0)
