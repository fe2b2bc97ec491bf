-- What is refused of a sheet that is read straight into columns, refused sheets too: what its table is refused for, after the sheet itself. Assumes nothing.
use Prim.Native.Nat.{ℕ}
use mathlib.Core.Path.{◌≡◌, sym, ap, ◌∙◌}
use mathlib.Core.Bool.{cond}
use mathlib.Core.List.{List}
use native.Mathlib.Decide.{ℕ_discrete}
use lib.Dec.{ltb}
use Rattle.places.specs.Refusals.{or_else}
use Rattle.places.proofs.Refusals.{first_of, next-of}
use Rattle.sheet.specs.Told.{Ranked}
use Rattle.sheet.specs.Layout.{table_of}
use Rattle.sheet.specs.Rules.{sheet_refusal}
use Rattle.sheet.specs.Answers.{ranked_answer}
use Rattle.sheet.proofs.Demands.{table-good, ranked-good}
use Rattle.analysis.specs.declared.Rule.{Rule}
use Rattle.analysis.specs.ByRule.{rule_refusal, place_refusal}
use Rattle.analysis.specs.BySheet.{shared_by, read_refusal, read_place_refusal, sheet_place_refusal}
use Rattle.analysis.proofs.Laws.BySheet.{rule-shared}

-- what is read of a sheet has its refusal
pub read-refusal : (s : List ℕ) {read : Ranked} → read ≡ ranked_answer s → read.refusal ≡ sheet_refusal s
unfolding ranked_answer
read-refusal s e = ap (λ (r : Ranked). r.refusal) e

-- and is refused as its table is, after the sheet itself
pub read-judged : (rule : Rule) (s : List ℕ) {read : Ranked} → read ≡ ranked_answer s → read_refusal rule read ≡ or_else (sheet_refusal s) (rule_refusal rule (table_of s))
unfolding read_refusal
read-judged rule s {read} e = go (ℕ_discrete (sheet_refusal s) 0)
  where
    told : read.refusal ≡ sheet_refusal s
    told = read-refusal s e

    go : Dec (sheet_refusal s ≡ 0) → or_else read.refusal (shared_by rule read.round read.share) ≡ or_else (sheet_refusal s) (rule_refusal rule (table_of s))
    go (yes good) =
        next-of _ (told ∙ good) ∙ ap (λ (r : Ranked). shared_by rule r.round r.share) (e ∙ ranked-good s good)
        ∙ sym (rule-shared rule (table_of s) (table-good s good)) ∙ sym (next-of _ good)
    go (no broken) = first_of _ _ (λ none. broken (sym told ∙ none)) ∙ told ∙ sym (first_of _ _ broken)

-- for a place too
pub place-judged : (rule : Rule) (s : List ℕ) {read : Ranked} → read ≡ ranked_answer s → (place : ℕ) → read_place_refusal rule read place ≡ sheet_place_refusal rule s place
unfolding read_place_refusal sheet_place_refusal place_refusal
place-judged rule s {read} e place = go (ℕ_discrete (sheet_refusal s) 0)
  where
    judged : read_refusal rule read ≡ or_else (sheet_refusal s) (rule_refusal rule (table_of s))
    judged = read-judged rule s e

    go : Dec (sheet_refusal s ≡ 0) → or_else (read_refusal rule read) (cond (ltb place read.count) 0 12) ≡ or_else (sheet_refusal s) (or_else (rule_refusal rule (table_of s)) (cond (ltb place (table_of s).count) 0 12))
    go (yes good) =
        ap (λ (r : Ranked). or_else (read_refusal rule read) (cond (ltb place r.count) 0 12)) (e ∙ ranked-good s good)
        ∙ ap (λ (n : ℕ). or_else n (cond (ltb place (table_of s).count) 0 12)) (judged ∙ next-of _ good) ∙ sym (next-of _ good)
    go (no broken) =
        let refused = judged ∙ first_of _ _ broken in
        first_of _ _ (λ none. broken (sym refused ∙ none)) ∙ refused ∙ sym (first_of _ _ broken)
